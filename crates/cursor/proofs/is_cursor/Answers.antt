use mathlib.Core.Logic.{inl, inr}
use Rattle.loes.specs.Cursor.{offsets_right}
use native.Mathlib.Omega.{arith}
use Rattle.encoding.proofs.Opened.{opens_room}
use Rattle.cursor.proofs.Stepping.{right_in, right_not}
use Rattle.cursor.proofs.is_cursor.Goals as goal

pub returns-then-path-ne-MAX_WIDTH : goal.returns-then-path-ne-MAX_WIDTH
returns-then-path-ne-MAX_WIDTH c = right_not _ c.args.state c.args.path.now c.if-path-ne-MAX_WIDTH.true

pub at_member-requires : goal.at_member-requires
at_member-requires c = (omega (arith, c.if-path-ne-MAX_WIDTH.false, (opens_room _ _ c.args.o.opens).narrow))

pub returns-in-At : goal.returns-in-At
returns-in-At c = right_in _ _ _ _ _ c.if-path-ne-MAX_WIDTH.false c.in-At.is c.at_member.ensures

pub returns-in-Before : goal.returns-in-Before
unfolding offsets_right
returns-in-Before c = elim c.in-Before.is [
  | inl s ↦ right_in _ _ _ _ _ c.if-path-ne-MAX_WIDTH.false s c.are_zeros.ensures
  | inr s ↦ right_in _ _ _ _ _ c.if-path-ne-MAX_WIDTH.false s c.are_zeros.ensures
]

use Prim.Native.Nat.{ℕ, ◌+◌, ◌*◌, ◌/◌, ◌≤◌}
use mathlib.Core.Path.{◌≡◌, refl, ap, ◌∙◌}
use lib.Dec.{ltb}
use mathlib.Core.Bool.{Bool, true, false}
use Rattle.std.specs.Int.{from_bool}
use Rattle.loes.specs.Bytes.{Bytes, bit}
use Rattle.loes.specs.Prefixes.{inhabited}
use Rattle.loes.specs.Held.{Holds}
use Rattle.merge.specs.Union.{QueueRoom}
use Rattle.merge.proofs.Held.{set_in, held_of, even, some_records}
use Rattle.merge.proofs.Queue.{done_none, done_more, merged_done, end_le, level_room}
use native.Mathlib.Omega.{arith}
use Rattle.merge.proofs.merge.Goals as goal

byte_bit : (b : Bool) → from_bool b ≡ bit b
byte_bit true = refl
byte_bit false = refl

-- a set of so many edges has a root if it has any
some : {m b : ℕ} {l : Bytes} → Holds m b l → bit (ltb 0 b) ≡ bit (inhabited m (set_in m b l))
some {m} {b} {l} h =
    let e : 2 * (b / 2) ≡ b = even m b l h.same in
    ap bit (some_records m h.positive (held_of h) b (λ z. omega arith) (λ p. omega arith))

-- the second is of the first's width
same_width : {m n b : ℕ} {l : Bytes} → m ≡ n → Holds n b l → Holds m b l
same_width e h = rw e h

pub loop-init : goal.loop-init
loop-init c =
    let second = same_width c.requires.one_width c.args.b.holds in
    done_none (c.from.ensures ∙ byte_bit (ltb 0 c.args.a.bits) ∙ some c.args.a.holds) (c.from-2.ensures ∙ byte_bit (ltb 0 c.args.b.bits) ∙ some second) c.push-t.ensures

pub merge_level-at-requires : goal.merge_level-at-requires
merge_level-at-requires c =
    let second = same_width c.requires.one_width c.args.b.holds in
    let room : QueueRoom (2 * (c.args.a.bits / 2)) (2 * (c.args.b.bits / 2)) c.push-t.new.out =
    record { queue = omega (arith, c.requires.queue_room.queue, c.push-t.ensures.size); small = omega (arith, c.requires.queue_room.small, c.push-t.ensures.size) } in
    level_room (held_of c.args.a.holds) (held_of second) c.loop.invariant (omega arith) room (omega (arith, c.args.a.holds.few, second.few)) c.args.a.behind c.args.b.behind

pub loop-preserved : goal.loop-preserved
loop-preserved c =
    let second = same_width c.requires.one_width c.args.b.holds in
    done_more (held_of c.args.a.holds) (held_of second) c.loop.invariant (omega arith) c.merge_level-at.ensures

pub overflow_mul-result : goal.overflow_mul-result
overflow_mul-result c =
    let second = same_width c.requires.one_width c.args.b.holds in
    let few : c.loop.from.0 ≤ c.args.a.bits / 2 + c.args.b.bits / 2 = end_le (held_of c.args.a.holds) (held_of second) c.loop.invariant (omega arith) in
    record { fits = omega (arith, few, c.args.a.holds.few, second.few) }

pub returns : goal.returns
returns c =
    let second = same_width c.requires.one_width c.args.b.holds in
    let all : c.loop.counter ≡ c.args.a.width = omega arith in
    rw (← c.requires.one_width) (merged_done c.args.a.holds second c.requires.queue_room (rw all at c.loop.invariant) c.push-t.ensures.size)

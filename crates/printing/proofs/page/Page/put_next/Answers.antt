use Rattle.std.proofs.Common.{◌≡◌, ℕ, ◌≤◌, ◌<◌, ◌^◌, length, take, refl, sym, arith}
use lib.Seq.{length-take-le}
use Rattle.loes.specs.Entry.{key_bytes, count, Valid}
use Rattle.loes.specs.Read.{entry_in}
use Rattle.loes.proofs.Seven.{count_le}
use Rattle.encoding.proofs.Opened.{opens_valid}
use Rattle.printing.specs.Text.{key_bytes_at}
use Rattle.printing.proofs.Lines.{member_most}
use Rattle.printing.proofs.Paging.{key_most, next_wrote, next_key, next_stands}
use Rattle.printing.proofs.page.Page.put_next.Goals as goal
use Rattle.printing.proofs.page.Page.put_next.Goals.{After-advance}
use Rattle.std.specs.Prelude.{Ok, ◌+◌}
use Rattle.printing.specs.Pages.{come}
use Rattle.printing.specs.Standing.{StandsAt}
use Rattle.loes.specs.Entry.{Entry}

-- what the step from here leaves
module _ (c : After-advance) where
  abbrev e : Entry
  e = entry_in c.args.self.now.opened.bytes.now

  valid : Valid e
  valid = opens_valid _ _ c.args.self.now.opened.opens

  there : c.args.self.now.index.0 < count e
  there = omega (arith, c.args.self.now.opened.opens.count, c.requires.0)

  -- it returns its key's bytes
  wrote : c.advance.result ≡ Ok (key_bytes e.width)
  wrote = next_wrote e valid (come c.args.self.now) c.args.self.now.stands there _ refl _ _ _ c.advance.ensures

  -- it wrote that key, and stands at its member
  key : take (key_bytes e.width) c.advance.new.out ≡ key_bytes_at e c.args.self.now.index.0
  key = next_key e valid (come c.args.self.now) c.args.self.now.stands there _ refl _ _ _ c.advance.ensures

  stands : StandsAt e c.advance.new.cursor (c.args.self.now.index.0 + 1)
  stands = next_stands e valid (come c.args.self.now) c.args.self.now.stands there _ refl _ _ _ c.advance.ensures

  -- so many bytes, and no more than a key can have
  told : (n : ℕ) → c.advance.result ≡ Ok n → n ≡ key_bytes e.width
  told n h = let w = wrote in cc

  short : (n : ℕ) → c.advance.result ≡ Ok n → n ≤ 32
  short n h = omega (arith, told n h, key_most e valid)

  -- the next index is a number of 64 bits too
  small : c.args.self.now.index.0 + 1 < 2 ^ 64
  small = omega (arith, there, count_le e valid.positive, valid.few)

pub unwrap-written-requires : goal.unwrap-written-requires
unwrap-written-requires c = rw (wrote (goal.at.unwrap-written-requires c).After-advance)

pub slice_bounds-key-end : goal.slice_bounds-key-end
slice_bounds-key-end c = omega (arith, short (goal.at.slice_bounds-key-end c).After-advance _ c.unwrap-written.ensures)

pub slice_bounds-put_member-end : goal.slice_bounds-put_member-end
slice_bounds-put_member-end c =
    let h : c.unwrap-written.result ≤ length c.advance.new.out = omega (arith, short (goal.at.slice_bounds-put_member-end c).After-advance _ c.unwrap-written.ensures) in
    sym (length-take-le c.unwrap-written.result c.advance.new.out h)

pub put_member-self-requires : goal.put_member-self-requires
put_member-self-requires c =
    let at = (goal.at.put_member-self-requires c).After-advance in
    let k = c.unwrap-written.result in
    let f : k ≤ 32 = short at _ c.unwrap-written.ensures in
    let h : k ≤ length c.advance.new.out = omega (arith, f) in
    omega (arith, member_most c.args.self.now.index.0 (take k c.advance.new.out) (omega (arith, small at)) (omega (arith, length-take-le k c.advance.new.out h, f)), c.requires.1)

pub overflow_add-self : goal.overflow_add-self
overflow_add-self c = omega (arith, small (goal.at.overflow_add-self c).After-advance)

pub invariant_of-self : goal.invariant_of-self
invariant_of-self c = record { stands = stands (goal.at.invariant_of-self c).After-advance }

pub returns : goal.returns
returns c =
    let at = (goal.at.returns c).After-advance in (
      refl,
      record {
        index = refl;
        puts = rw (told at _ c.unwrap-written.ensures, key at) at c.put_member-self.ensures;
        stands = stands at;
      },
    )

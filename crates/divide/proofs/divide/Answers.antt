use mathlib.Core.Path.{refl}
use native.Mathlib.Omega.{arith}
use Rattle.loes.specs.Read.{entry_along}
use Rattle.loes.specs.Held.{entry_held}
use Rattle.restrict.proofs.Subsets.{subtract_entries, subtracted}
use Rattle.divide.proofs.Dividing.{moved_fit, packed_as, merged_most, all_fit, both_edges, second_edges}
use Rattle.divide.proofs.divide.Goals as goal

pub mark-requires-clause-n_bound : goal.mark-requires-clause-n_bound
mark-requires-clause-n_bound c = let v = c.merge-u.ensures in
    (v.flags.fits, omega (arith, v.size, c.requires.divide_room.queue.small), subtract_entries c.args.a.holds v)

pub mark-requires-clause-marks_fit : goal.mark-requires-clause-marks_fit
mark-requires-clause-marks_fit c = all_fit c.requires.one_width c.args.a.holds c.args.b.holds c.merge-u.ensures c.requires.divide_room refl refl refl

pub collect-both-requires : goal.collect-both-requires
collect-both-requires c = let v = c.merge-u.ensures in
    let l = c.mark.ensures.x_len_unchanged in
    moved_fit c.merge-u.new.q (all_fit c.requires.one_width c.args.a.holds c.args.b.holds v c.requires.divide_room l.0 l.1 l.2).0 (omega (arith, merged_most c.requires.one_width c.args.a.holds c.args.b.holds v, v.size, c.requires.divide_room.queue.queue))

pub collect-only_first-requires : goal.collect-only_first-requires
collect-only_first-requires c = let l = c.mark.ensures.x_len_unchanged in
    let f = all_fit c.requires.one_width c.args.a.holds c.args.b.holds c.merge-u.ensures c.requires.divide_room l.0 l.1 l.2 in
    moved_fit c.mark.new.x f.1 (omega (arith, f.0.room))

pub collect-only_second-requires : goal.collect-only_second-requires
collect-only_second-requires c = let l = c.mark.ensures.x_len_unchanged in
    let f = all_fit c.requires.one_width c.args.a.holds c.args.b.holds c.merge-u.ensures c.requires.divide_room l.0 l.1 l.2 in
    moved_fit c.mark.new.y f.2 (omega (arith, f.1.room))

pub returns : goal.returns
returns c = let v = c.merge-u.ensures in
    let m = c.mark.ensures.marks in
    let l = c.mark.ensures.x_len_unchanged in
    record {
      both = packed_as (both_edges v m.0) v.size c.collect-both.ensures.0;
      only_first = packed_as (subtracted v m.1) l.0 c.collect-only_first.ensures.0;
      only_second = packed_as (second_edges v (unfold entry_held entry_along in c.requires.one_width) m.2) l.1 c.collect-only_second.ensures.0;
    }

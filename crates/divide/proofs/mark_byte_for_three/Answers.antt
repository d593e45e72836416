use Prim.Native.Nat.{◌+◌}
use native.Mathlib.Omega.{arith}
use Rattle.restrict.proofs.Masking.{kept_edge, kept_member}
use Rattle.divide.proofs.Apart.{byte_marked}
use Rattle.divide.proofs.mark_byte_for_three.Goals as goal

pub returns-then-d-r : goal.returns-then-d-r
returns-then-d-r c = let q = c.args.q.now in
    let r = c.args.r.0 in
    let j = c.args.j in
    let d = c.args.d.0 in
    let m = c.requires.marks_fit in
    let l = c.requires.j_bound c.if-d-r.true in
    record {
      byte_marked = byte_marked 3 q c.args.x.now c.args.x.now r j d 0 c.mark_byte-a.result (omega (arith, c.requires.j_in_bounds.3, m.0.room)) c.mark_byte-a.ensures (λ k h. kept_edge 3 c.args.x.now q r (d + k) (omega (arith, l)));
      byte_marked_2 = byte_marked 1 q c.args.y.now c.args.y.now r j d 0 c.mark_byte-b.result (omega (arith, c.requires.j_in_bounds.3, m.1.room)) c.mark_byte-b.ensures (λ k h. kept_edge 1 c.args.y.now q r (d + k) (omega (arith, l)));
      byte_marked_3 = byte_marked 2 q c.args.z.now c.args.z.now r j d 0 c.mark_byte-c.result (omega (arith, c.requires.j_in_bounds.3, m.2.room)) c.mark_byte-c.ensures (λ k h. kept_edge 2 c.args.z.now q r (d + k) (omega (arith, l)));
    }

pub returns-else-d-r : goal.returns-else-d-r
returns-else-d-r c = let q = c.args.q.now in
    let r = c.args.r.0 in
    let j = c.args.j in
    let d = c.args.d.0 in
    let m = c.requires.marks_fit in
    record {
      byte_marked = byte_marked 3 q c.args.x.now q r j d 3 c.mark_byte-a-else-d-r.result (omega (arith, c.requires.j_in_bounds.3, m.0.room)) c.mark_byte-a-else-d-r.ensures (λ k h. kept_member 3 c.args.x.now q r (d + k) (omega arith) (omega (arith, c.if-d-r.false)));
      byte_marked_2 = byte_marked 1 q c.args.y.now q r j d 1 c.mark_byte-b-else-d-r.result (omega (arith, c.requires.j_in_bounds.3, m.1.room)) c.mark_byte-b-else-d-r.ensures (λ k h. kept_member 1 c.args.y.now q r (d + k) (omega arith) (omega (arith, c.if-d-r.false)));
      byte_marked_3 = byte_marked 2 q c.args.z.now q r j d 2 c.mark_byte-c-else-d-r.result (omega (arith, c.requires.j_in_bounds.3, m.2.room)) c.mark_byte-c-else-d-r.ensures (λ k h. kept_member 2 c.args.z.now q r (d + k) (omega arith) (omega (arith, c.if-d-r.false)));
    }

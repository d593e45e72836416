use Rattle.std.proofs.Common.{◌≡◌, ℕ, ◌++◌, ◌*◌, ◌∷◌, length, get_or}
use Rattle.loes.specs.Bytes.{big_endian, big_endians, front}
use Rattle.encoding.specs.Fields.{tag_of}
use Rattle.build.proofs.put_numbers.Given as goal

-- so many numbers are behind the head
abbrev pub invariant-loop-j : goal.invariant-loop-j
invariant-loop-j g l =
    l.out ≡ front ((tag_of l.fn.kind ∷ big_endian 2 (g.row.K * length l.numbers)) ++ big_endians g.row.K (λ (j : ℕ). get_or l.numbers j 0) l.j) l.initial.out

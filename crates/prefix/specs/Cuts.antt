-- A cut: a place in front of a record, or behind the last of its level, and the same place on the levels below, where no record has records under it on both sides.
use Rattle.std.specs.Prelude.{◌≡◌, ℕ, zero, suc, ◌+◌, ◌*◌, ◌≤◌, Bool, List}
use Rattle.loes.specs.Keys.{Key}
use Rattle.loes.specs.Edges.{rank}
use Rattle.loes.specs.Prefixes.{records_before}
use Rattle.loes.specs.Entry.{Entry}
use Rattle.loes.specs.Model.{count_before, count_under}

-- the cut in front of record r, n levels down: in front of it is a record for each set bit before, and the first of all
unfoldable pub carried : List Bool → ℕ → ℕ → ℕ
carried e zero r = r
carried e (suc n) r = carried e n (rank e (2 * r) + 1)

-- the cut in front of record r is one of level d
abbrev pub Cuts : Entry → ℕ → ℕ → Type 0
Cuts e d r = (records_before d e.width e.set ≤ r) × (r ≤ records_before (suc d) e.width e.set)

-- the members that begin with q: where they are, and how many
abbrev pub Ranged : Entry → Key → ℕ → ℕ → Type 0
Ranged e q first n = (first ≡ count_before e q) × (n ≡ count_under e q)

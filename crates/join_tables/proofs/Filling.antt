-- Tables filled entry by entry, and rules computed over all entries.
use mathlib.Core.Path.{◌≡◌, refl, sym, ap, ◌∙◌}
use Prim.Native.Nat.{ℕ, ◌+◌, ◌-◌, ◌*◌, ◌<◌}
use mathlib.Core.Bool.{Bool, true, false, false≢true}
use mathlib.Core.List.{List, [], ◌∷◌}
use native.Mathlib.Omega.{arith}
use lib.ListN.{length, get_or, set, length-set}
use lib.Dec.{eqb}
use lib.Seq.{get_or-set_same, get_or-set_other}
use Rattle.loes.proofs.Tests.{yes_eq, eq_yes}
use Rattle.records.specs.Tables.{Ruled}
use Rattle.join_tables.specs.Entries.{FilledFrom}
use Rattle.records.proofs.Computed.{each, each_at}

-- ---- A rule computed
-- a table filled with what code says is ruled if code is
pub ruled : {A : Type 0} (read f : ℕ → A) (code : ℕ → ℕ) (n : ℕ) → each (λ i. read (code i)) 0 n ≡ each f 0 n
    → (t : List ℕ) → length t ≡ n → ((i : ℕ) → i < n → get_or t i 0 ≡ code i) → Ruled read f n t
ruled read f code n e t l h = record { size = l; rule = λ i b. ap read (h i b) ∙ each_at (λ i. read (code i)) f n e i b }

-- ---- An entry set
-- an entry is set to what code says: then each is what code says if it was, or if it is the one
pub set_right : (code : ℕ → ℕ) (t : List ℕ) (p v : ℕ) → p < length t → v ≡ code p
    → (j : ℕ) → ((j ≡ p → ⊥) → get_or t j 0 ≡ code j) → get_or (set t p v) j 0 ≡ code j
set_right code t p v h e j k = go (eqb j p) refl
  where
    go : (b : Bool) → eqb j p ≡ b → get_or (set t p v) j 0 ≡ code j
    go true s = let z : j ≡ p = yes_eq j p s in rw z (get_or-set_same t p v 0 h ∙ e)
    go false s =
        let n : j ≡ p → ⊥ = λ z. false≢true (sym s ∙ ap (λ x. eqb x p) z ∙ eq_yes p) in
        get_or-set_other t p j v 0 n ∙ k n

-- the same of four entries
pub four_right : (code : ℕ → ℕ) (t : List ℕ) (p q r s a b c d : ℕ) → p < length t → q < length t → r < length t → s < length t
    → a ≡ code p → b ≡ code q → c ≡ code r → d ≡ code s
    → (j : ℕ) → ((j ≡ p → ⊥) → (j ≡ q → ⊥) → (j ≡ r → ⊥) → (j ≡ s → ⊥) → get_or t j 0 ≡ code j)
    → get_or (set (set (set (set t p a) q b) r c) s d) j 0 ≡ code j
four_right code t p q r s a b c d hp hq hr hs ea eb ec ed j k =
    let t1 : List ℕ = set t p a in
    let t2 : List ℕ = set t1 q b in
    let t3 : List ℕ = set t2 r c in
    set_right code t3 s d (simp length-set hs) ed j (λ ns.
    set_right code t2 r c (simp length-set hr) ec j (λ nr.
    set_right code t1 q b (simp length-set hq) eb j (λ nq.
    set_right code t p a hp ea j (λ np. k np nq nr ns))))

-- ---- Four entries a turn, in a row
-- what code says of the entries of turn i
abbrev pub Four : (ℕ → ℕ) → ℕ → List ℕ
Four code i = code (4 * i) ∷ code (4 * i + 1) ∷ code (4 * i + 2) ∷ code (4 * i + 3) ∷ []

-- before turn i: the four of each turn before, or the first entry
abbrev pub Fours : (ℕ → ℕ) → ℕ → List ℕ → Type 0
Fours code i t = FilledFrom code 0 (4 * i + (1 - i)) t

-- before the first turn
pub four_start : (code : ℕ → ℕ) (t : List ℕ) → 0 < length t → 0 ≡ code 0 → Fours code 0 (set t 0 0)
four_start code t h e j l m = set_right code t 0 0 h e j (λ s. absurd (s (omega arith)))

-- a turn
pub four_turn : (code : ℕ → ℕ) (i a b c d : ℕ) (t : List ℕ) → 4 * i + 3 < length t → Fours code i t → a ∷ b ∷ c ∷ d ∷ [] ≡ Four code i
    → Fours code (i + 1) (set (set (set (set t (4 * i) a) (4 * i + 1) b) (4 * i + 2) c) (4 * i + 3) d)
four_turn code i a b c d t h p w =
    let ea : a ≡ code (4 * i) = cc in
    let eb : b ≡ code (4 * i + 1) = cc in
    let ec : c ≡ code (4 * i + 2) = cc in
    let ed : d ≡ code (4 * i + 3) = cc in
    λ j l m. four_right code t (4 * i) (4 * i + 1) (4 * i + 2) (4 * i + 3) a b c d (omega arith) (omega arith) (omega arith) h ea eb ec ed j (λ n0 n1 n2 n3. p j l (omega arith))

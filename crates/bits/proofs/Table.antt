-- A table that computes to its rule's values has that rule at every entry.
use mathlib.Core.Path.{◌≡◌, refl, sym, ap, ◌∙◌}
use Prim.Native.Nat.{ℕ, ◌<◌}
use mathlib.Core.List.{List, [], map}
use native.Mathlib.Omega.{arith}
use lib.ListN.{length, get_or}
use Rattle.loes.specs.Bytes.{tabulate, odd}
use Rattle.loes.specs.Edges.{ones}
use Rattle.loes.proofs.Lists.{get_d_map_in}
use Rattle.loes.proofs.Bytes.{length_tabulate, get_d_tabulate}
use Rattle.bits.specs.declared.tables.TheConstants.{TALLIES, PLACES}
use Rattle.bits.specs.Tables.{Table, Tallies, Places, tally_of, bits8, select, digit, place_of}

pub computed : (f : ℕ → ℕ) (n : ℕ) → Table f n (tabulate f n)
computed f n = record { size = length_tabulate f n; rule = λ i h. get_d_tabulate f n i 0 h }

-- two rules whose values compute to the same are the same
pub pointwise : {A : Type 0} (d : A) (f g : ℕ → A) (n : ℕ) → tabulate f n ≡ tabulate g n → (i : ℕ) → i < n → f i ≡ g i
pointwise d f g n e i h = sym (get_d_tabulate f n i d h) ∙ ap (λ t. get_or t i d) e ∙ get_d_tabulate g n i d h

-- rows whose digits compute to the places, over the whole table
pub rows : (t : List ℕ) → length t ≡ 256 → map (λ r. tabulate (digit r) 8) t ≡ tabulate (λ x. tabulate (place_of x) 8) 256 → Places t
rows t n e = record {
  size = n;
  rule = λ x k hx hk.
      let z : tabulate (digit (get_or t x 0)) 8 ≡ tabulate (place_of x) 8 =
      sym (get_d_map_in (λ r. tabulate (digit r) 8) t x 0 [] (omega (arith, n))) ∙ ap (λ l. get_or l x []) e ∙ get_d_tabulate (λ x. tabulate (place_of x) 8) 256 x [] hx in
      pointwise 0 (digit (get_or t x 0)) (place_of x) 8 z k hk;
}

-- ---- The two tables of the code
pub tallies : Tallies TALLIES
unfolding tabulate odd ones bits8
tallies = computed tally_of 256

pub places : Places PLACES
unfolding tabulate odd bits8 select digit
places = rows PLACES refl refl

-- The descent: level by level, the record of a key's prefix and whether that prefix is found.
use Rattle.std.specs.Prelude.{◌≡◌, ℕ, ◌+◌, ◌*◌, Bool, true, false, ◌&&◌, ◌||◌, not, List, length, get_or, eqb, Result, Ok, Err}
use Rattle.loes.specs.Bytes.{Bytes, bit, bits_in}
use Rattle.loes.specs.Keys.{Key, smaller}
use Rattle.loes.specs.Prefixes.{record_index}
use Rattle.loes.specs.Edges as in_set
use Rattle.loes.specs.Edges.{rank}
use Rattle.loes.specs.Entry.{Entry, key_bytes, keys_of}
use Rattle.loes.specs.Model.{unused_set}
use Rattle.loes.specs.declared.refusal.Refusal.{Refusal}
use Rattle.loes.specs.declared.refusal.Refusal.TheVariants.{BadKey}
use Rattle.query.specs.declared.Spot.{Spot}
use Rattle.query.specs.declared.Position.{Position}

-- where a descent goes from record r: over the edge of bit b while the key's prefix is found, else in front of the record
unfoldable pub edge_from : ℕ → Bool → Bool → ℕ
edge_from r found b = 2 * r + bit (found && b)

-- one level down over the edge of bit b: the record that it leads to, and whether the key's prefix goes on
abbrev pub DownTo : List Bool → Spot → Bool → Spot → Type 0
DownTo e s b r =
    let o : ℕ = edge_from s.record.0 s.found b in
    (r.record.0 ≡ rank e o + 1) × (r.found ≡ (s.found && get_or e o false))

-- a descent that has come to level d: the record that the key's prefix of d bits has or would have, and whether that prefix is found
pub record Way (e : Entry) (key : Bytes) (d r : ℕ) (found : Bool) : Type 0 where
  pub at : r ≡ record_index (bits_in key d) e.width e.set
  pub on : found ≡ in_set.found e.width e.set (bits_in key d)

-- a key among the members: how many are smaller, and whether it is one
pub record Located (e : Entry) (k : Key) (index : ℕ) (found : Bool) : Type 0 where
  pub below : index ≡ smaller k (keys_of e)
  pub inside : found ≡ e.set k

-- no key or prefix of m bits: not as many bytes as they take, or an unused bit set
abbrev pub no_key : ℕ → Bytes → Bool
no_key m x = not (eqb (length x) (key_bytes m)) || unused_set m x

-- where a key is among the members, or refusal 8 of what is no key
abbrev pub Sought : Entry → Bytes → Result Position Refusal → Type 0
Sought e x (Err k) = (no_key e.width x ≡ true) × (k ≡ BadKey)
Sought e x (Ok p) = (no_key e.width x ≡ false) × Located e (bits_in x e.width) p.below.0 p.found

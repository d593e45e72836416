-- The model's answers as C has them: the refusal's number, whether what was asked for is there, and a value.
use Rattle.std.specs.Prelude.{◌≡◌, ℕ, ◌<◌, cond, List, [], ◌∷◌, ℤ, eqb}
use Rattle.loes.specs.Bytes.{Bytes}
use Rattle.loes.specs.Model as model
use Rattle.loes.specs.Calls.{open_call, pack_call, union_call, difference_call, split_call, contains_call, index_of_call, lower_bound_call, key_at_call, rank_call, prefix_call}
use Rattle.loes.specs.Cursor.{Cursor, advance_call}
use Rattle.weights.specs.Weights.{Weights, pack_weighted_call, post_call, union_weighted_call, difference_weighted_call}
use Rattle.capi.specs.declared.answers.Answer.{Answer}
use Rattle.capi.specs.declared.answers.Opened.{Opened}
use Rattle.capi.specs.declared.answers.Range.{Range}
use Rattle.capi.specs.declared.answers.Lengths.{Lengths}

-- refused: the number, and nothing else
abbrev pub refuses : ℕ → Answer
refuses k = record { refusal = k; found = 0; value = 0 }

abbrev pub says : ℕ → Answer
says n = record { refusal = 0; found = 1; value = n }

-- not refused, and what was asked for is not there
abbrev pub nothing : Answer
nothing = record { refusal = 0; found = 0; value = 0 }

-- the one length of a call that writes one encoding
abbrev pub length_in : List ℕ → ℕ
length_in [] = 0
length_in (n ∷ ns) = n

-- present and posted are 1; a step to after writes no key; opening, a prefix and a split have answers of their own, below
abbrev pub code_of : model.Answer → Answer
code_of (model.refused k) = refuses k
code_of (model.wrote ns) = says (length_in ns)
code_of (model.wrote_key n) = cond (eqb n 0) nothing (says n)
code_of (model.tells m n b) = says m
code_of model.is_present = says 1
code_of model.is_absent = nothing
code_of model.is_none = nothing
code_of model.is_posted = says 1
code_of (model.index_is i) = says i
code_of (model.rank_is r) = says r
code_of (model.range_is i n) = says i

-- ---- 0 says that a call is not refused
abbrev pub Positive : model.Answer → Type 0
Positive (model.refused k) = 0 < k
Positive (model.wrote ns) = Unit {0}
Positive (model.wrote_key n) = Unit {0}
Positive (model.tells m n b) = Unit {0}
Positive model.is_present = Unit {0}
Positive model.is_absent = Unit {0}
Positive model.is_none = Unit {0}
Positive model.is_posted = Unit {0}
Positive (model.index_is i) = Unit {0}
Positive (model.rank_is r) = Unit {0}
Positive (model.range_is i n) = Unit {0}

-- no call is refused with 0, whatever it is given
pub record ZeroIsNoRefusal : Type 0 where
  pub opening : (l : Bytes) → Positive (open_call l).answer
  pub pack : (m : ℕ) (batch out : Bytes) → Positive (pack_call m batch out).answer
  pub union : (a b out : Bytes) → Positive (union_call a b out).answer
  pub difference : (a b out : Bytes) → Positive (difference_call a b out).answer
  pub split : (a b both only_first only_second : Bytes) → Positive (split_call a b both only_first only_second).answer
  pub contains : (l x : Bytes) → Positive (contains_call l x).answer
  pub index_of : (l x : Bytes) → Positive (index_of_call l x).answer
  pub lower_bound : (l x : Bytes) → Positive (lower_bound_call l x).answer
  pub key_at : (l : Bytes) (i : ℕ) (out : Bytes) → Positive (key_at_call l i out).answer
  pub rank : (l : Bytes) (o : ℕ) → Positive (rank_call l o).answer
  pub prefix : (l : Bytes) (p : ℕ) (x : Bytes) → Positive (prefix_call l p x).answer
  pub advance : (l : Bytes) (c : Cursor) (out : Bytes) → Positive (advance_call l c out).answer
  pub post : (l : Bytes) (ws : Weights) (x : Bytes) (amount : ℤ) → Positive (post_call l ws x amount).answer
  pub pack_weighted : (m : ℕ) (batch out : Bytes) (ws : Weights) → Positive (pack_weighted_call m batch out ws).answer
  pub union_weighted : (a : Bytes) (wa : Weights) (b : Bytes) (wb : Weights) (out : Bytes) (ws : Weights) → Positive (union_weighted_call a wa b wb out ws).answer
  pub difference_weighted : (a : Bytes) (wa : Weights) (b out : Bytes) (ws : Weights) → Positive (difference_weighted_call a wa b out ws).answer

-- ---- Calls
-- a call's answer, and what it was lent for output, at exit
pub record Given (A L : Type 0) : Type 0 where
  pub answer : A
  pub buffers : L

abbrev pub gives : {A L : Type 0} → A → L → Given A L
gives r bufs = record { answer = r; buffers = bufs }

unfoldable pub coded : {L : Type 0} → model.OutcomeOf L → Given Answer L
coded o = gives (code_of o.answer) o.buffers

-- ---- Opening
-- width m, n keys and b edge bits
abbrev pub opening : ℕ → ℕ → ℕ → Opened
opening m n b = record { refusal = 0; width = m; count = n; bits = b }

abbrev pub no_opening : ℕ → Opened
no_opening k = record { refusal = k; width = 0; count = 0; bits = 0 }

-- opening answers only the first two
abbrev pub opening_of : model.Answer → Opened
opening_of (model.tells m n b) = opening m n b
opening_of (model.refused k) = no_opening k
opening_of (model.wrote ns) = no_opening 0
opening_of (model.wrote_key n) = no_opening 0
opening_of model.is_present = no_opening 0
opening_of model.is_absent = no_opening 0
opening_of model.is_none = no_opening 0
opening_of model.is_posted = no_opening 0
opening_of (model.index_is i) = no_opening 0
opening_of (model.rank_is r) = no_opening 0
opening_of (model.range_is i n) = no_opening 0

-- these are the numbers that opening tells of bytes: what the functions behind the check rely on
abbrev pub Tells : ℕ → ℕ → ℕ → Bytes → Type 0
Tells m n b l = (open_call l).answer ≡ model.tells m n b

-- ---- Prefixes
-- the members that begin with one: n of them, from index i on
abbrev pub range : ℕ → ℕ → Range
range i n = record { refusal = 0; first = record { 0 = i }; count = n }

abbrev pub no_range : ℕ → Range
no_range k = record { refusal = k; first = record { 0 = 0 }; count = 0 }

-- a prefix answers only the first two
abbrev pub range_of : model.Answer → Range
range_of (model.range_is i n) = range i n
range_of (model.refused k) = no_range k
range_of (model.wrote ns) = no_range 0
range_of (model.wrote_key n) = no_range 0
range_of (model.tells m n b) = no_range 0
range_of model.is_present = no_range 0
range_of model.is_absent = no_range 0
range_of model.is_none = no_range 0
range_of model.is_posted = no_range 0
range_of (model.index_is i) = no_range 0
range_of (model.rank_is r) = no_range 0

-- ---- Split
-- the lengths of three encodings
abbrev pub lengths : ℕ → ℕ → ℕ → Lengths
lengths x y z = record { refusal = 0; both = x; only_first = y; only_second = z }

abbrev pub no_lengths : ℕ → Lengths
no_lengths k = record { refusal = k; both = 0; only_first = 0; only_second = 0 }

abbrev pub lengths_in : List ℕ → Lengths
lengths_in [] = no_lengths 0
lengths_in (x ∷ []) = no_lengths 0
lengths_in (x ∷ y ∷ []) = no_lengths 0
lengths_in (x ∷ y ∷ z ∷ ns) = lengths x y z

-- a split answers with lengths or a refusal
abbrev pub lengths_of : model.Answer → Lengths
lengths_of (model.wrote ns) = lengths_in ns
lengths_of (model.refused k) = no_lengths k
lengths_of (model.wrote_key n) = no_lengths 0
lengths_of (model.tells m n b) = no_lengths 0
lengths_of model.is_present = no_lengths 0
lengths_of model.is_absent = no_lengths 0
lengths_of model.is_none = no_lengths 0
lengths_of model.is_posted = no_lengths 0
lengths_of (model.index_is i) = no_lengths 0
lengths_of (model.rank_is r) = no_lengths 0
lengths_of (model.range_is i n) = no_lengths 0

unfoldable pub three_coded : model.Outcome → Given Lengths (List Bytes)
three_coded o = gives (lengths_of o.answer) o.buffers

-- Two sets split in three: the rooms, and what is answered.
use Rattle.std.specs.Prelude.{◌≡◌, ℕ, ◌+◌, ◌*◌, [], ◌∷◌, Result, Ok, Err}
use Rattle.loes.specs.Bytes.{Bytes}
use Rattle.loes.specs.Numbers.{number_of}
use Rattle.loes.specs.declared.refusal.Refusal.{Refusal}
use Rattle.divide.specs.declared.Three.{Three}
use Rattle.loes.specs.Model.{Outcome, refused, wrote, writing_all}
use Rattle.join.specs.Joining.{spare, Serves, queue_for}

-- the bytes of a union's marks, for encodings of at most n bytes each
abbrev pub marks_for : ℕ → ℕ
marks_for n = 2 * n + spare

-- a queue and room for the marks of three parts, of so many bytes each, by the rule of their size n
pub record SplitRoom (n x y queue marks : ℕ) : Type 0 where
  pub serves : Serves n x y
  pub flags : queue ≡ queue_for n
  pub records : marks ≡ marks_for n

-- what the answer says, with the three buffers at exit
unfoldable pub split_outcome : Result Three Refusal → Bytes → Bytes → Bytes → Outcome
split_outcome (Err k) both only_first only_second = writing_all (refused (number_of k)) (both ∷ only_first ∷ only_second ∷ [])
split_outcome (Ok n) both only_first only_second = writing_all (wrote (n.both ∷ n.only_first ∷ n.only_second ∷ [])) (both ∷ only_first ∷ only_second ∷ [])

-- What the question answers, test by test.
use mathlib.Core.Path.{◌≡◌, sym}
use Prim.Native.Nat.{ℕ, ◌≤◌, ◌<◌}
use mathlib.Core.Bool.{Bool, true, false}
use Rattle.loes.specs.Bytes.{Bytes, bits_in}
use Rattle.loes.specs.Entry.{Entry}
use Rattle.loes.specs.Refusals.{bad_key, out_of_range, test, first_of}
use Rattle.query.specs.Descent.{no_key}
use Rattle.loes.specs.Model.{refused, range_is, saying, refusal, refused_or, tested, answers, key_in, key_test, at_most_test, prefix_tests, prefix}
use Rattle.loes.proofs.Tests.{lt_no}
use Rattle.loes.proofs.Demands.{answers_agree}
use Rattle.prefix.specs.Cuts.{Ranged}

module _ (e : Entry) (p : ℕ) (x : Bytes) where
  pub prefix_out : e.width < p → saying (refused out_of_range) ≡ (prefix e p x).outcome
  prefix_out h = sym (answers_agree.long_prefix e p x h)

  module _ (h : p ≤ e.width) (bad : Bool) (is : bad ≡ no_key p x) where
    pub prefix_bad : bad ≡ true → saying (refused bad_key) ≡ (prefix e p x).outcome
    unfolding prefix prefix_tests at_most_test key_test answers tested refused_or refusal first_of test
    prefix_bad t = rw (lt_no e.width p h, ← is, t)

    pub prefix_told : bad ≡ false → (i n : ℕ) → Ranged e (bits_in x p) i n → saying (range_is i n) ≡ (prefix e p x).outcome
    unfolding prefix prefix_tests at_most_test key_test answers tested refused_or first_of test key_in
    prefix_told f i n r = rw (lt_no e.width p h, ← is, f, r.0, r.1)

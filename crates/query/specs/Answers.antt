-- What each answer says in the specification's words, with the lent buffers.
use Rattle.std.specs.Prelude.{ℕ, Bool, true, false, Option, Some, None, Result, Ok, Err}
use Rattle.loes.specs.Bytes.{Bytes}
use Rattle.loes.specs.Numbers.{number_of}
use Rattle.loes.specs.Model.{Answer, Outcome, refused, wrote_key, is_present, is_absent, is_none, index_is, saying, writing}
use Rattle.loes.specs.declared.refusal.Refusal.{Refusal}
use Rattle.bits.specs.declared.MemberIndex.{MemberIndex}

abbrev pub membership_outcome : Result Bool Refusal → Outcome
membership_outcome (Err k) = saying (refused (number_of k))
membership_outcome (Ok true) = saying is_present
membership_outcome (Ok false) = saying is_absent

abbrev pub lookup_outcome : Result (Option MemberIndex) Refusal → Outcome
lookup_outcome (Err k) = saying (refused (number_of k))
lookup_outcome (Ok (Some i)) = saying (index_is i.0)
lookup_outcome (Ok None) = saying is_absent

abbrev pub bound_outcome : Result (Option MemberIndex) Refusal → Outcome
bound_outcome (Err k) = saying (refused (number_of k))
bound_outcome (Ok (Some i)) = saying (index_is i.0)
bound_outcome (Ok None) = saying is_none

abbrev pub key_answer : Result ℕ Refusal → Answer
key_answer (Err k) = refused (number_of k)
key_answer (Ok n) = wrote_key n

abbrev pub key_outcome : Result ℕ Refusal → Bytes → Outcome
key_outcome r out = writing (key_answer r) out

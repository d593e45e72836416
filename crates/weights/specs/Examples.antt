-- Worked examples of weights. The proof of each is computation.
use Rattle.std.specs.Prelude.{◌≡◌, ℕ, false, List, [], ◌∷◌, ◌++◌, map, ℤ, pos, negsuc, length, get_or, replicate}
use mathlib.Core.Option.{Option, none, some}
use Rattle.loes.specs.Bytes.{Bytes}
use Rattle.loes.specs.Encode.{encode}
use Rattle.loes.specs.Examples.{P1, P2, room, left, right, entry_of}
use Rattle.loes.specs.Model.{Answer, refused, wrote, is_posted, is_absent}
use Rattle.weights.specs.Weights.{Weights, least, greatest, WeightedOutcome, leaving, pack_weighted_call, post_call, union_weighted_call, difference_weighted_call}
use Rattle.weights.specs.History.{Call, do_pack, do_post, do_union, do_difference, none_stored, store_says, store_after, model_after}
use Rattle.weights.specs.Agreement.{no_account}

-- ---- Words of the statements
-- n entries before a call
abbrev pub filled : ℕ → Weights
filled n = replicate n (pos 77)

abbrev pub writing : Answer → Bytes → Weights → WeightedOutcome
writing a out ws = leaving a (out ∷ []) ws

abbrev pub saying : Answer → Weights → WeightedOutcome
saying a ws = leaving a [] ws

-- {000, 011} and {011, 110}
abbrev pub L : Bytes
L = encode left

abbrev pub R : Bytes
R = encode right

-- a history: packs {000, 011} and {011, 110}, places 0 and 1; posts; unites them, place 2; posts again; unites that with itself, place 3; takes place 1 off, place 4; unites what is left with place 3, and with itself
abbrev pub story : List Call
story =
    do_pack 3 (0x00 ∷ 0x60 ∷ []) (room 47) (filled 3)
    ∷ do_pack 3 (0x60 ∷ 0xC0 ∷ []) (room 48) (filled 2)
    ∷ do_post 0 (0x60 ∷ []) (pos 10)
    ∷ do_post 1 (0x60 ∷ []) (negsuc 2)
    ∷ do_post 1 (0xC0 ∷ []) (pos 5)
    ∷ do_post 1 (0x00 ∷ []) (pos 1000)
    ∷ do_post 1 (0x01 ∷ []) (pos 1000)
    ∷ do_union 0 1 (room 48) (filled 4)
    ∷ do_post 0 (0x60 ∷ []) (pos 100)
    ∷ do_post 2 (0x00 ∷ []) (pos 1)
    ∷ do_union 2 2 (room 48) (filled 3)
    ∷ do_difference 3 1 (room 48) (filled 3)
    ∷ do_union 4 4 (room 48) []
    ∷ do_post 9 (0x00 ∷ []) (pos 1)
    ∷ do_post 4 (0x00 ∷ []) greatest
    ∷ do_union 4 3 (room 48) (filled 3)
    ∷ do_union 4 4 (room 48) (filled 1)
    ∷ []

abbrev pub answer_of : Option WeightedOutcome → Option Answer
answer_of none = none
answer_of (some o) = some o.answer

abbrev pub list_at : ℕ → Weights
list_at i = (get_or (store_after story) i none_stored).list

abbrev pub posted_to : ℕ → ℤ
posted_to i = (get_or (model_after story) i no_account).posted

abbrev pub dropped_from : ℕ → ℤ
dropped_from i = (get_or (model_after story) i no_account).dropped

pub record WeightExamples : Type 0 where
  -- pack writes as many zeros as keys, and keeps what is behind
  pub packs : pack_weighted_call 3 (0x00 ∷ 0x60 ∷ 0xC0 ∷ []) (room 50) (filled 5) ≡ writing (wrote (48 ∷ [])) (P2 ++ room 2) (pos 0 ∷ pos 0 ∷ pos 0 ∷ filled 2)
  pub packs_empty : pack_weighted_call 3 [] (room 36) [] ≡ writing (wrote (36 ∷ [])) P1 []
  pub packs_short : pack_weighted_call 3 (0x00 ∷ 0x60 ∷ 0xC0 ∷ []) (room 50) (filled 2) ≡ writing (refused 14) (room 50) (filled 2)
  pub packs_narrow : pack_weighted_call 3 (0x00 ∷ 0x60 ∷ 0xC0 ∷ []) (room 47) (filled 5) ≡ writing (refused 14) (room 47) (filled 5)
  -- post
  pub posts : post_call P2 (pos 1 ∷ pos 2 ∷ pos 3 ∷ []) (0x60 ∷ []) (negsuc 4) ≡ saying is_posted (pos 1 ∷ negsuc 2 ∷ pos 3 ∷ [])
  pub posts_nothing : post_call P2 (pos 1 ∷ pos 2 ∷ pos 3 ∷ []) (0x60 ∷ []) (pos 0) ≡ saying is_posted (pos 1 ∷ pos 2 ∷ pos 3 ∷ [])
  pub absent : post_call P2 (pos 1 ∷ pos 2 ∷ pos 3 ∷ []) (0xA0 ∷ []) greatest ≡ saying is_absent (pos 1 ∷ pos 2 ∷ pos 3 ∷ [])
  pub long_list : post_call P2 (filled 4) (0x61 ∷ []) (pos 1) ≡ saying (refused 16) (filled 4)
  pub short_list : post_call P2 (filled 2) (0x60 ∷ []) (pos 1) ≡ saying (refused 16) (filled 2)
  pub no_encoding : post_call (0 ∷ []) (filled 2) (0x60 ∷ []) (pos 1) ≡ saying (refused 1) (filled 2)
  pub bad_key : post_call P2 (filled 3) (0x61 ∷ []) (pos 1) ≡ saying (refused 8) (filled 3)
  -- 17 at both ends
  pub to_high : post_call P2 (pos 0 ∷ pos 2147483646 ∷ pos 0 ∷ []) (0x60 ∷ []) (pos 1) ≡ saying is_posted (pos 0 ∷ greatest ∷ pos 0 ∷ [])
  pub above : post_call P2 (pos 0 ∷ greatest ∷ pos 0 ∷ []) (0x60 ∷ []) (pos 1) ≡ saying (refused 17) (pos 0 ∷ greatest ∷ pos 0 ∷ [])
  pub to_low : post_call P2 (pos 0 ∷ negsuc 2147483646 ∷ pos 0 ∷ []) (0x60 ∷ []) (negsuc 0) ≡ saying is_posted (pos 0 ∷ least ∷ pos 0 ∷ [])
  pub below : post_call P2 (pos 0 ∷ least ∷ pos 0 ∷ []) (0x60 ∷ []) (negsuc 0) ≡ saying (refused 17) (pos 0 ∷ least ∷ pos 0 ∷ [])
  -- union: the shared key's sum, the others carried over
  pub unites : union_weighted_call L (pos 1 ∷ pos 20 ∷ []) R (negsuc 4 ∷ pos 300 ∷ []) (room 50) (filled 4) ≡ writing (wrote (48 ∷ [])) (P2 ++ room 2) (pos 1 ∷ pos 15 ∷ pos 300 ∷ filled 1)
  pub unites_ends : union_weighted_call L (greatest ∷ pos 2147483646 ∷ []) R (pos 1 ∷ least ∷ []) (room 48) (filled 3) ≡ writing (wrote (48 ∷ [])) P2 (greatest ∷ greatest ∷ least ∷ [])
  pub unites_above : union_weighted_call L (pos 0 ∷ greatest ∷ []) R (pos 1 ∷ pos 0 ∷ []) (room 48) (filled 3) ≡ writing (refused 17) (room 48) (filled 3)
  pub unites_below : union_weighted_call L (pos 0 ∷ least ∷ []) R (negsuc 0 ∷ pos 0 ∷ []) (room 48) (filled 3) ≡ writing (refused 17) (room 48) (filled 3)
  -- 14 before 17, 16 before both, 13 before 16
  pub unites_short : union_weighted_call L (pos 0 ∷ greatest ∷ []) R (pos 1 ∷ pos 0 ∷ []) (room 48) (filled 2) ≡ writing (refused 14) (room 48) (filled 2)
  pub unites_narrow : union_weighted_call L (pos 0 ∷ greatest ∷ []) R (pos 1 ∷ pos 0 ∷ []) (room 47) (filled 3) ≡ writing (refused 14) (room 47) (filled 3)
  pub unites_first_list : union_weighted_call L (pos 0 ∷ []) R (pos 1 ∷ pos 0 ∷ []) (room 1) [] ≡ writing (refused 16) (room 1) []
  pub unites_second_list : union_weighted_call L (pos 0 ∷ pos 0 ∷ []) R (filled 3) (room 1) [] ≡ writing (refused 16) (room 1) []
  pub unites_widths : union_weighted_call L [] (encode (entry_of 1 [])) [] (room 1) [] ≡ writing (refused 13) (room 1) []
  -- difference: the entries that are left
  pub subtracts : difference_weighted_call P2 (pos 1 ∷ pos 2 ∷ pos 3 ∷ []) R (room 48) (filled 2) ≡ writing (wrote (47 ∷ [])) (encode (entry_of 3 ((false ∷ false ∷ false ∷ []) ∷ [])) ++ room 1) (pos 1 ∷ filled 1)
  pub subtracts_self : difference_weighted_call P2 (filled 3) P2 (room 37) (filled 1) ≡ writing (wrote (36 ∷ [])) (P1 ++ room 1) (filled 1)
  pub subtracts_list : difference_weighted_call P2 (filled 2) R (room 1) [] ≡ writing (refused 16) (room 1) []
  pub subtracts_widths : difference_weighted_call P2 [] (encode (entry_of 1 [])) (room 1) [] ≡ writing (refused 13) (room 1) []
  pub subtracts_damaged : difference_weighted_call P2 [] (0 ∷ []) (room 1) [] ≡ writing (refused 1) (room 1) []
  pub subtracts_short : difference_weighted_call P2 (filled 3) R (room 47) [] ≡ writing (refused 14) (room 47) []
  pub subtracts_narrow : difference_weighted_call P2 (filled 3) R (room 46) (filled 1) ≡ writing (refused 14) (room 46) (filled 1)
  -- the history
  pub told : map answer_of (store_says [] story)
      ≡ some (wrote (47 ∷ [])) ∷ some (wrote (48 ∷ [])) ∷ some is_posted ∷ some is_posted ∷ some is_posted ∷ some is_absent ∷ some (refused 8) ∷ some (wrote (48 ∷ [])) ∷ some is_posted ∷ some is_posted
      ∷ some (wrote (48 ∷ [])) ∷ some (wrote (47 ∷ [])) ∷ some (refused 14) ∷ none ∷ some (refused 17) ∷ some (wrote (48 ∷ [])) ∷ some (wrote (47 ∷ [])) ∷ []
  pub places : length (store_after story) ≡ 7
  pub list_0 : list_at 0 ≡ pos 0 ∷ pos 110 ∷ []
  pub list_1 : list_at 1 ≡ negsuc 2 ∷ pos 5 ∷ []
  pub list_2 : list_at 2 ≡ pos 1 ∷ pos 7 ∷ pos 5 ∷ []
  pub list_3 : list_at 3 ≡ pos 2 ∷ pos 14 ∷ pos 10 ∷ []
  pub list_4 : list_at 4 ≡ pos 2 ∷ []
  pub list_5 : list_at 5 ≡ pos 4 ∷ pos 14 ∷ pos 10 ∷ []
  pub list_6 : list_at 6 ≡ pos 4 ∷ []
  -- 10 - 3 + 5 + 1 twice; less 14 + 10; again with place 3; and with itself, less 24 at each use
  pub posted_2 : posted_to 2 ≡ pos 13
  pub posted_3 : posted_to 3 ≡ pos 26
  pub posted_4 : posted_to 4 ≡ pos 26
  pub dropped_4 : dropped_from 4 ≡ pos 24
  pub posted_5 : posted_to 5 ≡ pos 52
  pub dropped_5 : dropped_from 5 ≡ pos 24
  pub posted_6 : posted_to 6 ≡ pos 52
  pub dropped_6 : dropped_from 6 ≡ pos 48

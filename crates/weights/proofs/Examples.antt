-- The worked examples of weights hold, by computation.
use mathlib.Core.Path.{refl}
use mathlib.Core.List.{flatten}
use Rattle.loes.specs.Bytes.{tabulate, same_numbers, started, big_endian, big_endians, bytes_value, number_at, odd, bits_value, byte_of, pack_bits, bit_at, bits_in, front}
use Rattle.loes.specs.Keys.{those, any_of, same_key, less, is_prefix, all_keys, members, smaller, set_of, either, without}
use Rattle.loes.specs.Edges.{found, record_of, level, record_bits, edges_before, edges, ones, rank, edge_offsets, all_set, present}
use Rattle.loes.specs.Entry.{key_bytes, keys_of, count, edges_of, edge_count, with_set, of_width, wrong_width, too_many_edges}
use Rattle.loes.specs.Encode.{field, block_ones, sub_block_ones, level_end, width_body, count_body, level_body, edge_body, block_body, sub_block_body, encode}
use Rattle.loes.specs.Refusals.{test, first_of}
use Rattle.loes.specs.Read.{start4, start5, start6, end_of, width_in, edge_count_in, edges_in, entry_along, entry_in, field_tests, head_tests, tail_tests, read_tests, reading_of, read}
use Rattle.loes.specs.Model.{refusal, refused_or, tested, key_in, unused_set, key_test, batch_keys, rising_tests, pack_tests, batch_entry, join_tests}
use Rattle.loes.specs.Calls.{after_reading, reading}
use Rattle.loes.specs.History.{at_place, cut, written_with}
use Rattle.weights.specs.Weights.{total, weight_of, listed, outside, checked, list_test, sum_of, sum_test, writes_with, union_weighted, difference_weighted, post, pack_weighted_call, post_call, union_weighted_call, difference_weighted_call}
use Rattle.weights.specs.History.{batch_account, posted_account, union_account, difference_account, list_of, changes, step_to, post_on, adds, model_call, outcome_of, accounts_of, model_from, store_call, count_read, stored_with, added_by, store_with, left_by, store_from, store_says, model_after, store_after}
use Rattle.weights.specs.Examples.{WeightExamples}

pub weight_examples : WeightExamples
unfolding flatten tabulate same_numbers started big_endian big_endians bytes_value number_at odd bits_value byte_of pack_bits bit_at bits_in front those any_of same_key less is_prefix all_keys members smaller set_of either without found record_of level record_bits edges_before edges ones rank edge_offsets all_set present key_bytes keys_of count edges_of edge_count with_set of_width wrong_width too_many_edges field block_ones sub_block_ones level_end width_body count_body level_body edge_body block_body sub_block_body encode test first_of start4 start5 start6 end_of width_in edge_count_in edges_in entry_along entry_in field_tests head_tests tail_tests read_tests reading_of read refusal refused_or tested key_in unused_set key_test batch_keys rising_tests pack_tests batch_entry join_tests after_reading reading at_place cut total weight_of listed outside checked list_test sum_of sum_test writes_with union_weighted difference_weighted post pack_weighted_call post_call union_weighted_call difference_weighted_call batch_account posted_account union_account difference_account list_of changes step_to post_on adds model_call outcome_of accounts_of model_from store_call count_read stored_with written_with added_by store_with left_by store_from store_says model_after store_after
weight_examples =
    record {
      packs = refl;
      packs_empty = refl;
      packs_short = refl;
      packs_narrow = refl;
      posts = refl;
      posts_nothing = refl;
      absent = refl;
      long_list = refl;
      short_list = refl;
      no_encoding = refl;
      bad_key = refl;
      to_high = refl;
      above = refl;
      to_low = refl;
      below = refl;
      unites = refl;
      unites_ends = refl;
      unites_above = refl;
      unites_below = refl;
      unites_short = refl;
      unites_narrow = refl;
      unites_first_list = refl;
      unites_second_list = refl;
      unites_widths = refl;
      subtracts = refl;
      subtracts_self = refl;
      subtracts_list = refl;
      subtracts_widths = refl;
      subtracts_damaged = refl;
      subtracts_short = refl;
      subtracts_narrow = refl;
      told = refl;
      places = refl;
      list_0 = refl;
      list_1 = refl;
      list_2 = refl;
      list_3 = refl;
      list_4 = refl;
      list_5 = refl;
      list_6 = refl;
      posted_2 = refl;
      posted_3 = refl;
      posted_4 = refl;
      dropped_4 = refl;
      posted_5 = refl;
      dropped_5 = refl;
      posted_6 = refl;
      dropped_6 = refl;
    }

-- The worked examples hold, by computation.
use mathlib.Core.Path.{refl}
use mathlib.Core.List.{flatten}
use Rattle.loes.specs.Bytes.{tabulate, same_numbers, started, big_endian, big_endians, bytes_value, number_at, odd, bits_value, byte_of, pack_bits, bit_at, bits_in, front}
use Rattle.loes.specs.Keys.{those, any_of, same_key, less, is_prefix, all_keys, members, smaller, set_of, either, without, in_both}
use Rattle.loes.specs.Edges.{found, record_of, level, record_bits, edges_before, edges, ones, rank, edge_offsets, all_set, present, last_of, edge_index}
use Rattle.loes.specs.Entry.{key_bytes, keys_of, count, edges_of, edge_count, with_set, of_width, wrong_width, too_many_edges}
use Rattle.loes.specs.Encode.{field, block_ones, sub_block_ones, level_end, width_body, count_body, level_body, edge_body, block_body, sub_block_body, encode}
use Rattle.loes.specs.Refusals.{test, first_of}
use Rattle.loes.specs.Read.{start4, start5, start6, end_of, width_in, edge_count_in, edges_in, entry_along, entry_in, field_tests, head_tests, tail_tests, read_tests, reading_of, read}
use Rattle.loes.specs.Model.{refusal, refused_or, tested, answers, fronts, any_short, writes, writes_key, key_in, unused_set, key_test, below_test, at_most_test, batch_keys, rising_tests, pack_tests, batch_entry, pack, join_tests, union, difference, split, opens, contains, index_of, key_at, rank_at, lower_bound, count_before, count_under, prefix_tests, prefix}
use Rattle.loes.specs.Calls.{after_reading, reading, pack_call, union_call, difference_call, split_call, open_call, contains_call, index_of_call, key_at_call, rank_call, lower_bound_call, prefix_call}
use Rattle.loes.specs.Cursor.{all_zero, path_of, has_path, offsets_right, is_cursor_of, padded, key_of, key_of_path, next_index, has_next, next_key, stays, goes_to, goes_to_after, stays_or, advance_tests, advance, advance_reading, advance_call}
use Rattle.loes.specs.Examples.{Examples, FurtherExamples}

pub examples : Examples
unfolding tabulate flatten same_numbers started big_endian big_endians bytes_value number_at odd bits_value byte_of pack_bits bit_at bits_in front those any_of same_key less is_prefix all_keys members smaller set_of either without in_both found record_of level record_bits edges_before edges ones rank edge_offsets all_set present last_of edge_index key_bytes keys_of count edges_of edge_count with_set of_width wrong_width too_many_edges field block_ones sub_block_ones level_end width_body count_body level_body edge_body block_body sub_block_body encode test first_of start4 start5 start6 end_of width_in edge_count_in edges_in entry_along entry_in field_tests head_tests tail_tests read_tests reading_of read refusal refused_or tested answers fronts any_short writes writes_key key_in unused_set key_test below_test at_most_test batch_keys rising_tests pack_tests batch_entry pack join_tests union difference split opens contains index_of key_at rank_at lower_bound count_before count_under prefix_tests prefix after_reading reading pack_call union_call difference_call split_call open_call contains_call index_of_call key_at_call rank_call lower_bound_call prefix_call all_zero path_of has_path offsets_right is_cursor_of padded key_of key_of_path next_index has_next next_key stays goes_to goes_to_after stays_or advance_tests advance advance_reading advance_call
examples =
    record {
      p1 = refl;
      p1_tells = refl;
      p2_edges = refl;
      p2_bytes = refl;
      p2 = refl;
      p2_tells = refl;
      p3_rank = refl;
      p3_last = refl;
      p3_earlier = refl;
      p3_index = refl;
      p3 = refl;
      p4_path = refl;
      p4_clear = refl;
      p4 = refl;
      p4_index = refl;
      p5 = refl;
      p5_tells = refl;
      p5_one = refl;
      p6 = refl;
      p7 = refl;
      p8 = refl;
      p8_descending = refl;
      p9_unused = refl;
      p9 = refl;
      p9_beyond = refl;
      p10 = refl;
      p10_bits = refl;
      p10_tells = refl;
    }

pub further_examples : FurtherExamples
unfolding tabulate flatten same_numbers started big_endian big_endians bytes_value number_at odd bits_value byte_of pack_bits bit_at bits_in front those any_of same_key less is_prefix all_keys members smaller set_of either without in_both found record_of level record_bits edges_before edges ones rank edge_offsets all_set present last_of edge_index key_bytes keys_of count edges_of edge_count with_set of_width wrong_width too_many_edges field block_ones sub_block_ones level_end width_body count_body level_body edge_body block_body sub_block_body encode test first_of start4 start5 start6 end_of width_in edge_count_in edges_in entry_along entry_in field_tests head_tests tail_tests read_tests reading_of read refusal refused_or tested answers fronts any_short writes writes_key key_in unused_set key_test below_test at_most_test batch_keys rising_tests pack_tests batch_entry pack join_tests union difference split opens contains index_of key_at rank_at lower_bound count_before count_under prefix_tests prefix after_reading reading pack_call union_call difference_call split_call open_call contains_call index_of_call key_at_call rank_call lower_bound_call prefix_call all_zero path_of has_path offsets_right is_cursor_of padded key_of key_of_path next_index has_next next_key stays goes_to goes_to_after stays_or advance_tests advance advance_reading advance_call
further_examples =
    record {
      width_0 = refl;
      width_257 = refl;
      read_width_0 = refl;
      read_width_257 = refl;
      read_width_256 = refl;
      room_47 = refl;
      room_48 = refl;
      last_524281 = refl;
      last_524280 = refl;
      second_block = refl;
      second_block_starts = refl;
      second_sub_block = refl;
      one_sub_block = refl;
      two_sub_blocks = refl;
      longest = refl;
      no_head = refl;
      short_body = refl;
      short_last = refl;
      out_of_turn = refl;
      no_tag = refl;
      other_length = refl;
      behind = refl;
      left_over = refl;
      empty_record = refl;
      made_up_count = refl;
      two_bytes = refl;
      rank_0 = refl;
      rank_12 = refl;
      rank_13 = refl;
      rank_empty = refl;
      prefix_none = refl;
      prefix_first = refl;
      prefix_last = refl;
      prefix_absent = refl;
      prefix_key = refl;
      prefix_empty = refl;
      prefix_4 = refl;
      prefix_long = refl;
      prefix_unused = refl;
      split_three = refl;
      split_itself = refl;
      split_short = refl;
      ragged = refl;
      unused = refl;
      widths = refl;
      no_room = refl;
      bound_at = refl;
      bound_next = refl;
      bound_none = refl;
      step_0 = refl;
      step_1 = refl;
      step_2 = refl;
      step_3 = refl;
      step_4 = refl;
      step_empty = refl;
      step_short = refl;
      no_path = refl;
      unused_offset = refl;
      nine_before_14 = refl;
      nine_before_8 = refl;
      eleven_before_12 = refl;
      fifteen_before_14 = refl;
    }

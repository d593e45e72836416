-- The examples of the text hold, by computation.
use mathlib.Core.Path.{refl}
use Rattle.loes.specs.Bytes.{tabulate, started, bits_value, byte_of, pack_bits}
use Rattle.loes.specs.Keys.{those, any_of, same_key, is_prefix, all_keys, members, set_of}
use Rattle.loes.specs.Edges.{found, record_of, level, record_bits, edges_before, edges}
use Rattle.loes.specs.Entry.{keys_of, count, edges_of, edge_count}
use Rattle.printing.specs.Text.{last_digits, decimal, hex_digit, hex, named, numbers_line, member_line, refused_line, key_bytes_at, lines_from, lines_of}
use Rattle.printing.specs.Examples.{TextExamples}

pub examples : TextExamples
unfolding tabulate started bits_value byte_of pack_bits those any_of same_key is_prefix all_keys members set_of found record_of level record_bits edges_before edges keys_of count edges_of edge_count last_digits decimal hex_digit hex named numbers_line member_line refused_line key_bytes_at lines_from lines_of
examples = record { p2 = refl; refused_7 = refl; zero = refl; inner_zeros = refl; letters = refl }

-- The number of each refusal in the code.
use Rattle.std.specs.Prelude.{ℕ}
use Rattle.loes.specs.Refusals.{truncated, wrong_tag, wrong_length, bad_width, too_large, trailing_bytes, not_an_encoding, bad_key, out_of_range, ragged_batch, unused_bit_set, descending, two_widths, short_buffer, bad_cursor, wrong_list, overflow}
use Rattle.loes.specs.declared.refusal.Refusal.{Refusal}
use Rattle.loes.specs.declared.refusal.Refusal.TheVariants.{Truncated, WrongTag, WrongLength, BadWidth, TooLarge, TrailingBytes, NotAnEncoding, BadKey, OutOfRange, RaggedBatch, UnusedBitSet, Descending, TwoWidths, ShortBuffer, BadCursor, WrongList, Overflow}

abbrev pub number_of : Refusal → ℕ
number_of Truncated = truncated
number_of WrongTag = wrong_tag
number_of WrongLength = wrong_length
number_of BadWidth = bad_width
number_of TooLarge = too_large
number_of TrailingBytes = trailing_bytes
number_of NotAnEncoding = not_an_encoding
number_of BadKey = bad_key
number_of OutOfRange = out_of_range
number_of RaggedBatch = ragged_batch
number_of UnusedBitSet = unused_bit_set
number_of Descending = descending
number_of TwoWidths = two_widths
number_of ShortBuffer = short_buffer
number_of BadCursor = bad_cursor
number_of WrongList = wrong_list
number_of Overflow = overflow

-- Document 01's example of the text, and further ones. The proof of each is computation.
use Rattle.std.specs.Prelude.{◌≡◌, [], ◌∷◌}
use Rattle.loes.specs.Examples.{three}
use Rattle.printing.specs.Text.{decimal, hex, refused_line, lines_of}

pub record TextExamples : Type 0 where
  -- "width 3 tickets 3 edges 12\n0 00\n1 60\n2 C0\n"
  pub p2 : lines_of three
      ≡ 119 ∷ 105 ∷ 100 ∷ 116 ∷ 104 ∷ 32 ∷ 51 ∷ 32 ∷ 116 ∷ 105 ∷ 99 ∷ 107 ∷ 101 ∷ 116 ∷ 115 ∷ 32 ∷ 51 ∷ 32 ∷ 101 ∷ 100 ∷ 103 ∷ 101 ∷ 115 ∷ 32 ∷ 49 ∷ 50 ∷ 10
      ∷ 48 ∷ 32 ∷ 48 ∷ 48 ∷ 10
      ∷ 49 ∷ 32 ∷ 54 ∷ 48 ∷ 10
      ∷ 50 ∷ 32 ∷ 67 ∷ 48 ∷ 10
      ∷ []
  -- "refused 7\n"
  pub refused_7 : refused_line 7 ≡ 114 ∷ 101 ∷ 102 ∷ 117 ∷ 115 ∷ 101 ∷ 100 ∷ 32 ∷ 55 ∷ 10 ∷ []
  -- "0" and "1090"
  pub zero : decimal 0 ≡ 48 ∷ []
  pub inner_zeros : decimal 1090 ≡ 49 ∷ 48 ∷ 57 ∷ 48 ∷ []
  -- "0FA9"
  pub letters : hex (0x0F ∷ 0xA9 ∷ []) ≡ 48 ∷ 70 ∷ 65 ∷ 57 ∷ []

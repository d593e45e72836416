use mathlib.Core.Path.{◌≡◌}
use mathlib.Core.List.{◌++◌}
use lib.ListN.{drop}
use Rattle.loes.specs.Bytes.{tabulate, byte_of}
use Rattle.loes.specs.Cursor.{key_of_path}
use Rattle.query.proofs.write_key.Given as goal

abbrev pub invariant-loop-j : goal.invariant-loop-j
invariant-loop-j l = l.out ≡ tabulate (byte_of (key_of_path l.offsets l.m)) l.j ++ drop l.j l.initial.out

-- The flag of members, by which sets have them.
use Rattle.std.specs.Prelude.{ℕ}
use Rattle.restrict.specs.declared.members.Members.{Members}
use Rattle.restrict.specs.declared.members.Members.TheVariants.{FirstOnly, SecondOnly, Both}

abbrev pub member_flag : Members → ℕ
member_flag FirstOnly = 1
member_flag SecondOnly = 2
member_flag Both = 3

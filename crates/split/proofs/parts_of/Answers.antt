use Rattle.split.proofs.Writing.{both_part, first_part, second_part}
use Rattle.split.proofs.parts_of.Goals as goal

pub invariant_of-result : goal.invariant_of-result
invariant_of-result c = record { joined = (both_part c.args.a c.args.b c.requires.one_width c.divided-k.ensures).joined }

pub invariant_of-result-2 : goal.invariant_of-result-2
invariant_of-result-2 c = record { joined = (first_part c.args.a c.args.b c.requires.one_width c.divided-k.ensures).joined }

pub invariant_of-result-3 : goal.invariant_of-result-3
invariant_of-result-3 c = record { joined = (second_part c.args.a c.args.b c.requires.one_width c.divided-k.ensures).joined }

pub invariant_of-result-4 : goal.invariant_of-result-4
invariant_of-result-4 c =
    record {
      few_both = (both_part c.args.a c.args.b c.requires.one_width c.divided-k.ensures).few;
      few_first = (first_part c.args.a c.args.b c.requires.one_width c.divided-k.ensures).few;
      few_second = (second_part c.args.a c.args.b c.requires.one_width c.divided-k.ensures).few;
    }

pub returns-clause-both : goal.returns-clause-both
returns-clause-both c = (both_part c.args.a c.args.b c.requires.one_width c.divided-k.ensures).held

pub returns-clause-only_first : goal.returns-clause-only_first
returns-clause-only_first c = (first_part c.args.a c.args.b c.requires.one_width c.divided-k.ensures).held

pub returns-clause-only_second : goal.returns-clause-only_second
returns-clause-only_second c = (second_part c.args.a c.args.b c.requires.one_width c.divided-k.ensures).held

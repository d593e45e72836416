use Rattle.std.proofs.Common.{rules, arith, ◌≡◌, ◌+◌, ◌*◌, ◌∙◌}
use Rattle.loes.specs.Bytes.{number_at}
use Rattle.encoding.proofs.Opened.{opens_room, opens_levels}
use Rattle.encoding.proofs.opening.Opened.level_end.Goals as goal

pub overflow_mul-d : goal.overflow_mul-d
overflow_mul-d c = let r = opens_room _ _ c.args.self.opens in omega (arith, r.levels, r.bytes, c.requires)

pub overflow_add-d : goal.overflow_add-d
overflow_add-d c = let r = opens_room _ _ c.args.self.opens in omega (arith, r.levels, r.bytes, c.requires)

pub number-requires : goal.number-requires
number-requires c = let r = opens_room _ _ c.args.self.opens in (search rules, omega (arith, r.levels, c.requires))

pub returns : goal.returns
returns c = let n : c.number.result ≡ number_at 4 c.args.self.bytes.now (15 + 4 * c.args.d) = c.number.ensures.0 in n ∙ opens_levels _ _ c.args.self.opens c.args.d c.requires

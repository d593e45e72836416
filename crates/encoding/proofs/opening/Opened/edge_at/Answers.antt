use Rattle.std.proofs.Common.{arith, ◌∙◌}
use Rattle.bits.proofs.Counts.{bit_from}
use Rattle.encoding.proofs.Opened.{opens_room, room_at, opens_edge}
use Rattle.encoding.proofs.opening.Opened.edge_at.Goals as goal

pub overflow_mul-self : goal.overflow_mul-self
overflow_mul-self c = let r = opens_room _ _ c.args.self.opens in omega (arith, (room_at _ _ c.args.at.0 r c.requires).0, r.bytes)

pub overflow_add-self : goal.overflow_add-self
overflow_add-self c = let r = opens_room _ _ c.args.self.opens in omega (arith, (room_at _ _ c.args.at.0 r c.requires).0, r.bytes)

pub bit_at-requires : goal.bit_at-requires
bit_at-requires c = let r = opens_room _ _ c.args.self.opens in omega (arith, (room_at _ _ c.args.at.0 r c.requires).0)

pub returns : goal.returns
returns c = c.bit_at.ensures ∙ bit_from _ _ _ ∙ opens_edge _ _ c.args.self.opens c.args.at.0 c.requires

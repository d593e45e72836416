use Rattle.std.proofs.Common.{◌≡◌, ◌<◌, refl, ap, arith}
use Rattle.encoding.specs.declared.opening.Opened.{Opened}
use Rattle.loes.specs.Entry.{count}
use Rattle.loes.specs.Read.{entry_in}
use Rattle.printing.proofs.Paging.{fills_front, fills_some}
use Rattle.printing.proofs.print_page.Goals as goal

pub write_members-requires : goal.write_members-requires
write_members-requires g c =
    let same : entry_in c.fill.new.self.opened.bytes.now ≡ entry_in c.args.from.opened.bytes.now = ap (λ (o : Opened). entry_in o.bytes.now) c.fill.ensures.0 in
    let f = c.fill.ensures.1 in
    let lt : c.args.from.index.0 < count (entry_in c.args.from.opened.bytes.now) = omega (arith, c.args.from.opened.opens.count, c.requires.1) in
    rw same (fills_some _ _ _ _ _ f c.fill.ensures.2 lt (omega arith), f.stands.within, fills_front _ _ _ _ _ f c.requires.0)

pub returns : goal.returns
returns g c =
    let lt : c.args.from.index.0 < count (entry_in c.args.from.opened.bytes.now) = omega (arith, c.args.from.opened.opens.count, c.requires.1) in
    (c.fill.ensures.0, refl, fills_some _ _ _ _ _ c.fill.ensures.1 c.fill.ensures.2 lt (omega arith))

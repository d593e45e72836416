use mathlib.Core.Path.{◌≡◌, refl, ap, ◌∙◌}
use Rattle.encoding.specs.declared.opening.Opened.{Opened}
use Rattle.loes.specs.Read.{entry_in}
use Rattle.printing.proofs.Paging.{fills_none, fills_next}
use Rattle.printing.proofs.page.Page.fill.Goals as goal

-- one opened encoding has one entry
same_entry : (a b : Opened) → a ≡ b → entry_in a.bytes.now ≡ entry_in b.bytes.now
same_entry a b h = ap (λ (o : Opened). entry_in o.bytes.now) h

pub loop-self-init : goal.loop-self-init
loop-self-init c = (refl, fills_none _ _ _ c.args.self.now.stands c.requires)

pub loop-self-preserved : goal.loop-self-preserved
loop-self-preserved c = (
  c.put_next.ensures.0 ∙ c.loop-self.invariant.0,
  fills_next _ _ _ _ _ _ _ c.loop-self.invariant.1 (rw (same_entry _ _ c.loop-self.invariant.0) at c.put_next.ensures.1),
)

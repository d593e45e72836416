use Rattle.capi.proofs.Opening.{told_room, told_opens}
use Rattle.capi.proofs.unchecked.opened.Goals as goal

pub new-requires : goal.new-requires
new-requires c = told_room _ _ _ _ c.requires

pub of-requires : goal.of-requires
of-requires c = told_opens _ _ _ _ c.requires _ c.new.ensures

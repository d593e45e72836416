use native.Mathlib.Omega.{arith}
use Rattle.capi.proofs.Opening.{opens_narrow}
use Rattle.capi.proofs.answers.OpenedFromResultOpeningOpenedRefusal.from.Goals as goal

pub overflow_cast-result : goal.overflow_cast-result
overflow_cast-result c = record { fits = omega (arith, opens_narrow c.in-Ok.o.opens) }

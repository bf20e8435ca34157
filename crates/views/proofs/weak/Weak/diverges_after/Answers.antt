use Rattle.std.proofs.Common.{◌∙◌, ap}
use Rattle.views.specs.Weak.{overlap}
use Rattle.views.proofs.weak.Weak.diverges_after.Goals as goal

pub returns : goal.returns
returns g c = c.meets.ensures ∙ ap (λ n. overlap n c.args.self.now.diverging) c.reach.ensures

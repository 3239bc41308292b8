use Rattle.problem.specs.Setting.{Holds}
use Rattle.examples.specs.Slices.{two_rays}
use Rattle.reconstruct.proofs.Loaded.{pixels_of, loaded, two_loads, two_means}
use Rattle.reconstruct.proofs.slices.two_pixels.Goals as goal

pub load-requires : goal.load-requires
load-requires c = two_loads _ (pixels_of 2 1 0 10 1 0 c.in_ok-settings.settings c.in_ok-settings.ensures.1)

pub returns : goal.returns
returns c =
    let g = c.in_ok-settings.settings in
    let holds = c.in_ok-settings.ensures.1 in
    loaded (Holds 2 1 0 10 1 0) g _ two_rays c.load.result holds (two_means _ (pixels_of 2 1 0 10 1 0 g holds)) c.load.ensures

use Rattle.problem.specs.Setting.{Holds}
use Rattle.examples.specs.Slices.{six_rays}
use Rattle.reconstruct.proofs.Loaded.{pixels_of, loaded, six_loads, six_means}
use Rattle.reconstruct.proofs.slices.six_pixels.Goals as goal

pub load-requires : goal.load-requires
load-requires c = six_loads _ (pixels_of 3 2 2 9 6 0 c.in_ok-settings.settings c.in_ok-settings.ensures.1)

pub returns : goal.returns
returns c =
    let g = c.in_ok-settings.settings in
    let holds = c.in_ok-settings.ensures.1 in
    loaded (Holds 3 2 2 9 6 0) g _ six_rays c.load.result holds (six_means _ (pixels_of 3 2 2 9 6 0 g holds)) c.load.ensures

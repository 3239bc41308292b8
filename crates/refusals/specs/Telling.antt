-- The number and the place of each refusal. Assumes nothing.
use Rattle.std.specs.Prelude.{ℕ, Bool, ◌&&◌, List, ◌++◌, codes, decimal, ◌==◌}
use Rattle.refusals.specs.declared.Refusal.{Refusal}
use Rattle.refusals.specs.declared.Refusal.TheVariants.{OutOfMemory, Size, Density, Strength, Rays, Starts, Entry, Reading, Cap, Pixels, Length, Pixel, RayNumber, Slope, Empty, Setting, Mark}

abbrev pub number_of : Refusal → ℕ
number_of OutOfMemory = 0
number_of Size = 1
number_of Density = 2
number_of Strength = 3
number_of Rays = 4
number_of (Starts position) = 5
number_of (Entry position) = 6
number_of (Reading ray) = 7
number_of Cap = 8
number_of Pixels = 9
number_of (Length list) = 10
number_of (Pixel position) = 11
number_of (RayNumber position) = 12
number_of (Slope position) = 13
number_of Empty = 14
number_of Setting = 15
number_of Mark = 16

-- 0 where a refusal tells no place
abbrev pub place_of : Refusal → ℕ
place_of OutOfMemory = 0
place_of Size = 0
place_of Density = 0
place_of Strength = 0
place_of Rays = 0
place_of (Starts position) = position
place_of (Entry position) = position
place_of (Reading ray) = ray
place_of Cap = 0
place_of Pixels = 0
place_of (Length list) = list
place_of (Pixel position) = position
place_of (RayNumber position) = position
place_of (Slope position) = position
place_of Empty = 0
place_of Setting = 0
place_of Mark = 0

-- what is wrong
abbrev pub words_of : Refusal → List ℕ
words_of OutOfMemory = codes "memory: no memory is left for what was asked"
words_of Size = codes "size: columns and rows are 1 to 48 each"
words_of Density = codes "density: lowest is at most highest, and highest at most 1023"
words_of Strength = codes "strength: at most 1048576"
words_of Rays = codes "rays: more than 4096 rays, or the wrong number of readings"
words_of (Starts place) = codes "starts: this start breaks a rule, or their number does"
words_of (Entry place) = codes "entry: pixel, weight or rise is wrong"
words_of (Reading place) = codes "reading: above 4194303"
words_of Cap = codes "cap: a cap of the layer would pass the law of scans"
words_of Pixels = codes "pixels: the numbers of pixels differ"
words_of (Length place) = codes "length: this list has the wrong length"
words_of (Pixel place) = codes "pixel: outside the density limits"
words_of (RayNumber place) = codes "ray number: not admitted by the misfit"
words_of (Slope place) = codes "slope: above the strength in size, or not 0 where the slice ends"
words_of Empty = codes "empty: nothing is accepted yet"
words_of Setting = codes "setting: tolerance, slope or step number outside its range"
words_of Mark = codes "mark: there is no such ray to blank"

-- the line that a person reads
abbrev pub told : Refusal → List ℕ
told e = codes "refused " ++ (decimal (number_of e) ++ (codes " at " ++ (decimal (place_of e) ++ (codes ", " ++ words_of e))))

-- whether two refusals have one number and one place
abbrev pub same : Refusal → Refusal → Bool
same x y = number_of x == number_of y && place_of x == place_of y

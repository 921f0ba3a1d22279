-- The count that a tally stands for.
use Rattle.std.specs.Prelude.{ℕ, ◌+◌}
use Rattle.nb_streams.specs.declared.counted.Tally.{Tally, Zero, More'}

-- how often the tally was ticked
abbrev pub count_of : Tally → ℕ
count_of Zero = 0
count_of (More' _ before) = count_of before + 1

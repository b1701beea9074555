-- All that is wanted, as it is asked: `wanted` of Asking, by what was seen.
use Rattle.std.specs.Prelude.{[], ◌++◌}
use Rattle.cx_options.specs.declared.answer.Options.{Options}
use Rattle.cx_asking.specs.declared.limits.Limits.{Limits}
use Rattle.cx_asking.specs.Asking.{wanted}
use Rattle.cx_asking.specs.Includes.{all_include_wishes}
use Rattle.cx_asking.specs.Shapes.Asks.{Gathered, Wants}
use Rattle.cx_asking.specs.Wishes.{source_wishes, units_of}

abbrev pub nothing : Gathered
nothing = record { seen = []; shelf = [] }

abbrev pub all_wanted : Limits → Options → Wants
all_wanted limits options texts seen = wanted limits texts options seen

-- what is wanted where no list is refused, behind the lists
abbrev pub sources_wanted : Limits → Options → Wants
sources_wanted limits options texts seen =
    source_wishes limits seen options
    ++ all_include_wishes texts options.folders seen (units_of limits seen options)

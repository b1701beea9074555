use Rattle.std.proofs.Common.{ap, refl, subst, sym}
use Rattle.cx_library.specs.Library.{macros_of}
use Rattle.cx_asking.specs.Asking.{AreFaults}
use Rattle.cx_unit.specs.Units.{Ground}
use Rattle.cx_run.specs.Reports.{IsGround}
use Rattle.cx_run.proofs.CheckedLaws.{told_by}
use Rattle.cx_run.proofs.checked.told_reports.Goals as goal

pub returns : goal.returns
returns c =
    told_by c.args.limits.now c.args.options.now c.args.gathering.now.answers ground c.args.units.now c.unit_reports.result
    stands c.unit_reports.ensures
  where
    ground : Ground
    ground = record {
      limits = c.args.limits.now.unit;
      options = c.args.options.now;
      macros = macros_of c.in_ok-library.library;
      seen = c.args.gathering.now.answers;
      shelf = c.args.gathering.now.shelf;
      faults = c.as_slice.result.now;
    }

    stands : IsGround c.args.limits.now c.args.options.now c.args.gathering.now.answers ground
    stands = record {
      limits_are = refl;
      options_are = refl;
      macros_are = ap macros_of c.in_ok-library.ensures;
      seen_is = refl;
      folders_are = c.requires.folders;
      shelved = c.requires.shelved;
      faulty = subst (AreFaults 0 c.args.gathering.now.answers) (sym c.as_slice.ensures.value) c.requires.faults;
    }

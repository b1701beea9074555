-- The asking of the paths that are given, and then of what their units include.
use Rattle.std.proofs.Common.{◌≡◌, ℕ, false, List, [], Result, Ok, Err, IfOk, flat_map, map, refl, sym, ap, ◌∙◌}
use Rattle.std.specs.Prelude.{OnErr}
use Rattle.std.proofs.lemmas.List.Folds.{flat_map-map}
use Rattle.cx_base.specs.declared.answers.SeenEntry.{SeenEntry}
use Rattle.cx_base.specs.Outside.{FilesState}
use Rattle.cx_base.specs.Simple.{simple_path}
use Rattle.cx_options.specs.declared.answer.Options.{Options}
use Rattle.cx_asking.specs.declared.limits.Limits.{Limits}
use Rattle.cx_asking.specs.Asking.{text_of}
use Rattle.cx_asking.specs.Includes.{all_include_wishes}
use Rattle.cx_asking.specs.Shapes.Asks.{Asks, Extends, Gathered, IsCut, Wants}
use Rattle.cx_asking.specs.Shapes.Steps.{with_units}
use Rattle.cx_asking.specs.Shapes.Whole.{sources_wanted}
use Rattle.cx_asking.specs.Wishes.{given_paths, given_wishes, has_refused, source_wishes, units_of}
use Rattle.cx_asking.proofs.AsksLaws.{AreAlike, asks_alike, cut_alike, cut_first, cut_here, extends_of, then_asks, then_cut}
use Rattle.cx_asking.proofs.IncludeLaws.{all_includes}
use Rattle.cx_asking.proofs.SeenLaws.{extends_itself}
use Rattle.cx_asking.proofs.StayLaws.{paths_stay, refused_stays, units_stay}
use Rattle.cx_asking.proofs.UnitLaws.{all_units_of}
use Rattle.cx_asking.proofs.WalkLaws.{all_of, of_given}

module _ (limits : Limits) (options : Options) (a : Gathered) (read : has_refused a.seen options.lists ≡ false)
    (paths : List (List ℕ)) (these : paths ≡ map simple_path (given_paths a.seen options)) where
  abbrev given : Wants
  given = all_of (of_given limits) paths

  abbrev sources : Wants
  sources texts seen = source_wishes limits seen options

  abbrev included : Wants
  included texts seen = all_include_wishes texts options.folders seen (units_of limits seen options)

  paths_later : (later : Gathered) → Extends a later → paths ≡ map simple_path (given_paths later.seen options)
  paths_later later e =
      these ∙ ap (map simple_path) (sym (ap (λ s. given_paths s options) e.seen ∙ paths_stay a.seen e.more options read))

  as_sources : AreAlike given sources a
  unfolding source_wishes
  as_sources later texts e agree =
      ap (flat_map (given_wishes limits later.seen)) (paths_later later e)
      ∙ flat_map-map (given_wishes limits later.seen) simple_path (given_paths later.seen options)

  pub sources_cut : (files after : FilesState) → IsCut limits given a files after → IsCut limits (sources_wanted limits options) a files after
  sources_cut files after p = cut_first limits sources included a files after (cut_alike limits given sources a files after as_sources p)

  module _ (b : Gathered) (files between : FilesState) (p : Asks limits given a b files between) where
    asked : Asks limits sources a b files between
    asked = asks_alike limits given sources a b files between as_sources p

    further : Extends a b
    further = extends_of limits given a b files between [] p.went

    pub sources_cut_behind : IsCut limits (sources_wanted limits options) a files between
    sources_cut_behind = then_cut limits sources included a b files between between asked (cut_here limits included b between)

    module _ (seen : List SeenEntry) (is : seen ≡ b.seen) (units : List (List ℕ)) (are : units ≡ with_units limits.folders seen [] (flat_map (given_wishes limits seen) paths))
        (folders : List (List ℕ)) (those : folders ≡ options.folders) where
      all_units : units ≡ units_of limits b.seen options
      all_units =
          all_units_of limits b.seen options paths units units (paths_later b further)
          (are ∙ ap (λ s. with_units limits.folders s [] (flat_map (given_wishes limits s) paths)) is) refl

      units_later : (later : Gathered) → Extends b later → units ≡ units_of limits later.seen options
      units_later later e =
          all_units ∙ sym (ap (λ s. units_of limits s options) e.seen
          ∙ units_stay limits b.seen e.more e.fresh options (ap (λ s. has_refused s options.lists) further.seen ∙ refused_stays a.seen further.more options.lists read)
          (asked.done b (text_of b.shelf) (extends_itself b) (λ q k. refl)))

      as_included : AreAlike (all_includes folders units) included b
      as_included later texts e agree =
          ap (λ fs. all_include_wishes texts fs later.seen units) those
          ∙ ap (all_include_wishes texts options.folders later.seen) (units_later later e)

      pub sources_said : {E : Type 0} (result : Result Gathered E) (after : FilesState) → IfOk result (λ c. Asks limits (all_includes folders units) b c between after)
          → IfOk result (λ c. Asks limits (sources_wanted limits options) a c files after)
      sources_said (Ok c) after q =
          then_asks limits sources included a b c files between after asked (asks_alike limits (all_includes folders units) included b c between after as_included q)
      sources_said (Err e) after q = tt

      pub sources_cut_said : {T E : Type 0} (result : Result T E) (after : FilesState) → OnErr result (IsCut limits (all_includes folders units) b between after)
          → OnErr result (IsCut limits (sources_wanted limits options) a files after)
      sources_cut_said (Ok x) after q = tt
      sources_cut_said (Err e) after q =
          then_cut limits sources included a b files between after asked (cut_alike limits (all_includes folders units) included b between after as_included q)

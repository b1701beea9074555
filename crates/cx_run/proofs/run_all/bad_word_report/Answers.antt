use Rattle.std.proofs.Common.{[], length, refl, subst, sym}
use Rattle.std.proofs.lemmas.Option.{slice_get_read}
use Rattle.cx_run.specs.Reports.{IsReport, is_bad_word}
use Rattle.cx_run.proofs.CheckedLaws.{on_ok}
use Rattle.cx_run.proofs.run_all.bad_word_report.Goals as goal

pub returns : goal.returns
returns c = λ limits.
    on_ok c.word_report.result
    (λ report e. subst (IsReport limits c.args.words.now []) (sym e)
    (is_bad_word c.args.number c.args.kind c.index-words-number.result c.requires.bad
    (slice_get_read c.args.words.now (length c.args.words.now) c.args.number c.index-words-number.result refl c.requires.within c.index-words-number.is)))
    c.word_report.ensures

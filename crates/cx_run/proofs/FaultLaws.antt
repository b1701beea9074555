-- The counts of the two sinks, piece by piece.
use Rattle.std.proofs.Common.{refl, subst, ◌∙◌, Err}
use Rattle.cx_base.specs.declared.errors.Lost.{Lost}
use Rattle.cx_base.specs.declared.errors.Lost.TheVariants.{Failed, NoMemory}
use Rattle.cx_base.specs.Faults.{HasCause, Rose}
use Rattle.cx_base.specs.Outside.{SinkState}
use Rattle.cx_run.specs.declared.report.SinkName.{SinkName}
use Rattle.cx_run.specs.declared.report.SinkName.TheVariants as sink_is
use Rattle.cx_run.specs.Shapes.Stops.{HasFaultsOfStop}
use Rattle.cx_run.specs.Written.{FailedAlone, IsFaultless, Sinks, sinks}

pub faultless_both : (before middle after : Sinks) → IsFaultless before middle → IsFaultless middle after → IsFaultless before after
faultless_both before middle after p q = (q.0 ∙ p.0, q.1 ∙ p.1)

failed_after : (sink : SinkName) (before middle after : Sinks) → IsFaultless before middle → FailedAlone sink middle after → FailedAlone sink before after
failed_after sink_is.Out before middle after p q = (subst (λ n. Rose n after.out.faults) p.0 q.0, q.1 ∙ p.1)
failed_after sink_is.Err before middle after p q = (q.0 ∙ p.0, subst (λ n. Rose n after.err.faults) p.1 q.1)

-- a stop after pieces that were written
pub stop_after : (sink : SinkName) (lost : Lost) (before middle after : Sinks) → IsFaultless before middle
    → HasFaultsOfStop sink lost middle after → HasFaultsOfStop sink lost before after
stop_after sink Failed before middle after p q = failed_after sink before middle after p q
stop_after sink NoMemory before middle after p q = faultless_both before middle after p q

-- a stop of one sink, by the cause of its call
pub out_stop : (before after err : SinkState) (lost : Lost) → HasCause {T = Unit {0}} before.faults after.faults (Err lost)
    → HasFaultsOfStop sink_is.Out lost (sinks before err) (sinks after err)
out_stop before after err Failed h = (h.1, refl)
out_stop before after err NoMemory h = (h, refl)

pub err_stop : (out before after : SinkState) (lost : Lost) → HasCause {T = Unit {0}} before.faults after.faults (Err lost)
    → HasFaultsOfStop sink_is.Err lost (sinks out before) (sinks out after)
err_stop out before after Failed h = (refl, h.1)
err_stop out before after NoMemory h = (refl, h)

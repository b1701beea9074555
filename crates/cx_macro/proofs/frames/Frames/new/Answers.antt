use Rattle.cx_macro.proofs.FrameLaws.{no_frames}
use Rattle.cx_macro.proofs.frames.Frames.new.Goals as goal

pub returns : goal.returns
returns c = no_frames _ _ c.new.ensures c.new-2.ensures

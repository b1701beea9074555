use Rattle.cx_pre.specs.Choosing.{extent_in}
use Rattle.cx_pre.specs.Starts.{in_file}
use Rattle.cx_pre.proofs.MarkLaws.{marks_stay as law}
use Rattle.cx_pre.proofs.laws.marks_stay.Goals as goal

pub returns : goal.returns
returns c = record {
  count = λ shelf depth file s after e. (law shelf depth file (extent_in shelf file).fault (in_file shelf file s) after (extent_in shelf file).front e).0;
  marks = λ shelf depth file other s after e m. (law shelf depth file (extent_in shelf file).fault (in_file shelf file s) after (extent_in shelf file).front e).1 other m;
}

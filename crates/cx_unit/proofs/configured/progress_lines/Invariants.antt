use Rattle.std.proofs.Common.{◌≡◌, map, take}
use Rattle.cx_unit.specs.Names.{config_name, progress_line}
use Rattle.cx_unit.proofs.configured.progress_lines.Given as goal

abbrev pub invariant-loop-config : goal.invariant-loop-config
invariant-loop-config l = l.lines ≡ map (λ c. progress_line l.path (config_name l.options c.names)) (take l.config-index l.configs)

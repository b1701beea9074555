-- The limits of a run.
use Rattle.cx_run.specs.declared.limits.RunLimits.{RunLimits}

-- The limits of the command: of each file 4,194,304 bytes are read, and of all files 67,108,864 are
-- kept; 65,536 folders are gone through, 64 deep; a unit has 512 files and 8,388,608 bytes in all;
-- 4,096 units are checked.
abbrev pub limits_of_command : RunLimits
limits_of_command = record {
  asking = record { read = 4194305; kept = 67108864; folders = 65536; depth = 64 };
  unit = record { read = 4194305; files = 512; bytes = 8388608 };
  units = 4096;
}

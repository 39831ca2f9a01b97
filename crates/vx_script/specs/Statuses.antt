-- The statuses of the process, and the lines that say what went wrong.
use Rattle.std.specs.Prelude.{ℕ, List, [], ◌++◌, codes}
use Rattle.std.specs.Fmt.{decimal}
use Rattle.vx_line.specs.declared.fault.LineWhy.{LineWhy}
use Rattle.vx_line.specs.declared.fault.LineWhy.TheVariants.{Utf8, Pass, Word, Unbuilt, Form}
use Rattle.vx_script.specs.declared.status.Status.{Status}
use Rattle.vx_script.specs.declared.status.Status.TheVariants as statuses

abbrev pub why_text : LineWhy → List ℕ
why_text Utf8 = codes "utf8"
why_text Pass = codes "pass"
why_text Word = codes "word"
why_text Unbuilt = codes "unbuilt"
why_text Form = codes "form"

abbrev pub bad_line_text : ℕ → LineWhy → List ℕ
bad_line_text line why = codes "vxscript: bad line " ++ (decimal line ++ (codes ": " ++ (why_text why ++ codes "\n")))

-- the line that says what went wrong
abbrev pub fault_line : Status → List ℕ
fault_line statuses.Done = []
fault_line statuses.Usage = codes "vxscript: usage\n"
fault_line (statuses.BadLine line why) = bad_line_text line why
fault_line statuses.ReadFault = codes "vxscript: read fault\n"
fault_line statuses.WriteFault = codes "vxscript: write fault\n"
fault_line (statuses.TooLong count) = codes "vxscript: too long\n"
fault_line statuses.NoMemory = codes "vxscript: no memory\n"

abbrev pub status_code : Status → ℕ
status_code statuses.Done = 0
status_code statuses.Usage = 2
status_code (statuses.BadLine line why) = 3
status_code statuses.ReadFault = 4
status_code statuses.WriteFault = 5
status_code (statuses.TooLong count) = 6
status_code statuses.NoMemory = 9

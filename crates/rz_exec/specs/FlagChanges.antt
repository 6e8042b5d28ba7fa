-- Changes of CF and DF (Intel SDM, volume 2, "CLC", "STC", "CMC", "CLD", "STD").
use Rattle.std.specs.Prelude.{ℕ, true, false, not, List}
use Rattle.rz_flags.specs.declared.Flags.{Flags}
use Rattle.rz_flags.specs.declared.FlagOp.{FlagOp}
use Rattle.rz_flags.specs.declared.FlagOp.TheVariants.{Clc, Stc, Cmc, Cld, Std}
use Rattle.rz_exec.specs.Form.{Effect}
use Rattle.rz_exec.specs.Operands.{to_regs}

abbrev pub changed : FlagOp → Flags → Flags
changed Clc f = record f { cf = false }
changed Stc f = record f { cf = true }
changed Cmc f = record f { cf = not f.cf }
changed Cld f = record f { df = false }
changed Std f = record f { df = true }

abbrev pub flag_effect : FlagOp → List ℕ → Flags → Effect
flag_effect op regs flags = to_regs regs (changed op flags)

-- Faults of a text that is not read.
use Rattle.std.proofs.Common.{◌≡◌, ℕ, List, Option, None, subst, sym, arith}
use Rattle.parser_base.specs.declared.fault.Stop.{Stop}
use Rattle.parser_base.specs.declared.fault.Stop.TheVariants.{Unexpected as unexpected, LeftOut as left_out, TooDeep as too_deep, Memory}
use Rattle.parser_base.specs.Gives.{Stops}
use Rattle.parser.specs.declared.fault.ParseFault.{ParseFault}
use Rattle.parser.specs.declared.fault.ParseFault.TheVariants.{Unexpected, LeftOut, TooDeep, OutOfMemory}
use Rattle.parser.specs.Faults.{IsNotRead, Refuses, IsFaultOf}

pub not_read : {A : Type 0} (fault : ParseFault) (read : Option A) → read ≡ None → IsNotRead fault read
not_read (Unexpected at) read h = h
not_read (LeftOut form at) read h = h
not_read (TooDeep at) read h = h
not_read OutOfMemory read h = tt

pub refuses_memory : {A : Type 0} (text : List ℕ) (read : Option A) → Refuses text OutOfMemory read
refuses_memory text read = (tt, omega arith)

-- a part was not read, so the whole is not
pub refuses : {A B : Type 0} (text : List ℕ) (stop : Stop) (fault : ParseFault) (part : Option A) (whole : Option B) → IsFaultOf text stop fault → Stops stop part → (part ≡ None → whole ≡ None) → Refuses text fault whole
refuses text (unexpected at) fault part whole f h then_none = (not_read fault whole (then_none h), f)
refuses text (left_out form at) fault part whole f h then_none = (not_read fault whole (then_none h), f)
refuses text too_deep fault part whole f h then_none = (not_read fault whole (then_none h), f)
refuses text Memory fault part whole f h then_none =
    subst (λ (e : ParseFault). Refuses text e whole) (sym f) (refuses_memory text whole)

pub refuses_too : {A B : Type 0} (text : List ℕ) (fault : ParseFault) (part : Option A) (whole : Option B) → Refuses text fault part → (part ≡ None → whole ≡ None) → Refuses text fault whole
refuses_too text (Unexpected at) part whole h then_none = (then_none h.0, h.1)
refuses_too text (LeftOut form at) part whole h then_none = (then_none h.0, h.1)
refuses_too text (TooDeep at) part whole h then_none = (then_none h.0, h.1)
refuses_too text OutOfMemory part whole h then_none = h

-- The states of an hour, and how a call steps it.
use Rattle.std.specs.Prelude.{Bool, true, false, not, List, [], ◌∷◌, Some, None, Ok, Err, Option, Result}
use Rattle.refusal.specs.declared.Refusal.{Refusal}
use Rattle.refusal.specs.declared.Refusal.TheVariants.{HourAllotted, HourInCorrection, NoEnergies, HourNotAllotted, WrongSlip}
use Rattle.refusal.specs.Tests.{refused_if, first_of}
use Rattle.book.specs.declared.hour.Hour.{Hour}
use Rattle.book.specs.declared.hour.Hour.TheVariants.{Blank, Told, Allotted, Correcting}
use Rattle.book.specs.declared.hour.Step.{Step}
use Rattle.book.specs.declared.hour.Step.TheVariants.{Allot, Reopen, Finish}

abbrev pub is_none : {X : Type 0} → Option X → Bool
is_none None = true
is_none (Some x) = false

-- an hour is open as long as it is blank or only told, then allotted, or in correction
abbrev pub is_open : {E : Type 0} → Hour E → Bool
is_open Blank = true
is_open (Told e) = true
is_open (Allotted e) = false
is_open (Correcting e) = false

abbrev pub is_allotted : {E : Type 0} → Hour E → Bool
is_allotted Blank = false
is_allotted (Told e) = false
is_allotted (Allotted e) = true
is_allotted (Correcting e) = false

abbrev pub is_correcting : {E : Type 0} → Hour E → Bool
is_correcting Blank = false
is_correcting (Told e) = false
is_correcting (Allotted e) = false
is_correcting (Correcting e) = true

-- the energies told for an hour, if any
abbrev pub energies_in : {E : Type 0} → Hour E → Option E
energies_in Blank = None
energies_in (Told e) = Some e
energies_in (Allotted e) = Some e
energies_in (Correcting e) = Some e

-- the hour with other energies, otherwise as it was
abbrev pub told_anew : {E : Type 0} → Hour E → E → Hour E
told_anew Blank e = Told e
told_anew (Told d) e = Told e
told_anew (Allotted d) e = Allotted e
told_anew (Correcting d) e = Correcting e

-- the hour allotted, or in correction, with its energies
abbrev pub as_allotted : {E : Type 0} → Hour E → Hour E
as_allotted Blank = Blank
as_allotted (Told e) = Allotted e
as_allotted (Allotted e) = Allotted e
as_allotted (Correcting e) = Allotted e

abbrev pub as_correcting : {E : Type 0} → Hour E → Hour E
as_correcting Blank = Blank
as_correcting (Told e) = Correcting e
as_correcting (Allotted e) = Correcting e
as_correcting (Correcting e) = Correcting e

-- what an hour is tested for before a step
abbrev pub step_tests : {E : Type 0} → Step → Hour E → List (Option Refusal)
step_tests Allot x =
    refused_if (is_allotted x) HourAllotted
    ∷ refused_if (is_correcting x) HourInCorrection
    ∷ refused_if (is_none (energies_in x)) NoEnergies
    ∷ []
step_tests Reopen x = refused_if (not (is_allotted x)) HourNotAllotted ∷ []
step_tests Finish x = refused_if (not (is_correcting x)) WrongSlip ∷ []

abbrev pub step_refusal : {E : Type 0} → Step → Hour E → Option Refusal
step_refusal call x = first_of (step_tests call x)

-- the hour after a step that is not refused
abbrev pub stepped : {E : Type 0} → Step → Hour E → Hour E
stepped Allot x = as_allotted x
stepped Reopen x = as_correcting x
stepped Finish x = as_allotted x

-- the hour after a step, refused or not
abbrev pub hour_by : {E : Type 0} → Option Refusal → Hour E → Hour E → Hour E
hour_by None new old = new
hour_by (Some r) new old = old

abbrev pub hour_after : {E : Type 0} → Step → Hour E → Hour E
hour_after call x = hour_by (step_refusal call x) (stepped call x) x

-- what a step answers: the hour's energies, or why it is refused
abbrev pub energies_or : {E : Type 0} → Option E → Result E Refusal
energies_or None = Err NoEnergies
energies_or (Some e) = Ok e

abbrev pub step_answer : {E : Type 0} → Option Refusal → Hour E → Result E Refusal
step_answer None x = energies_or (energies_in x)
step_answer (Some refusal) x = Err refusal

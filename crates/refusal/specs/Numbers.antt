-- The numbers by which causes and refusals are told.
use Rattle.std.specs.Prelude.{ℕ}
use Rattle.refusal.specs.declared.Cause.{Cause}
use Rattle.refusal.specs.declared.Cause.TheVariants.{TooFewDays, MissingLoad, OutOfRange}
use Rattle.refusal.specs.declared.Refusal.{Refusal}
use Rattle.refusal.specs.declared.Refusal.TheVariants.{BadMonth, BadClasses, BadFirstDay, ResourceCount, BadResource, BuyerCount, ShortLists, UnknownMethod, AlreadyOpened, NoSuchHour, HourAllotted, BadTotal, PurchaseCount, PurchasesExceedTotal, HourInCorrection, NoEnergies, HourNotAllotted, WrongSlip, NoSuchResource, NeitherPlanNorOrder, AboveLimit, MarkWithoutOrder, OutsideOrderHours, Scheduled, Mandatory, NoLine, NoSuchBuyer, ShortBuffer}

-- a cause: fewer reference days than the method needs; a load that is missing; a customer, day or hour out of range
abbrev pub cause_number : Cause → ℕ
cause_number TooFewDays = 1
cause_number MissingLoad = 2
cause_number OutOfRange = 3

-- a refusal, in the order of the numbers
abbrev pub refusal_number : Refusal → ℕ
-- opening a book: the month, the day classes, the first day, the resources and the buyers; lists shorter than the book's measure
refusal_number BadMonth = 1
refusal_number BadClasses = 2
refusal_number BadFirstDay = 3
refusal_number ResourceCount = 4
refusal_number BadResource = 5
refusal_number BuyerCount = 6
refusal_number ShortLists = 7
-- a baseline method called for by another text than the seven
refusal_number UnknownMethod = 8
refusal_number AlreadyOpened = 9
-- an hour outside the month, or in the wrong state for the call; energies that do not fit
refusal_number NoSuchHour = 10
refusal_number HourAllotted = 11
refusal_number BadTotal = 12
refusal_number PurchaseCount = 13
refusal_number PurchasesExceedTotal = 14
refusal_number HourInCorrection = 15
refusal_number NoEnergies = 16
refusal_number HourNotAllotted = 17
refusal_number WrongSlip = 18
-- a settling: its resource, its terms, and the first customer for whom the scheduled or the mandatory source has no figure
refusal_number NoSuchResource = 20
refusal_number NeitherPlanNorOrder = 21
refusal_number AboveLimit = 22
refusal_number MarkWithoutOrder = 23
refusal_number OutsideOrderHours = 24
refusal_number (Scheduled lacking) = 25
refusal_number (Mandatory lacking) = 26
-- reading: no line stands, an unknown buyer, a buffer shorter than the text
refusal_number NoLine = 28
refusal_number NoSuchBuyer = 29
refusal_number ShortBuffer = 30

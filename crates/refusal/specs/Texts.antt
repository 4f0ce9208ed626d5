-- The texts by which causes, customers without a figure and refusals are told.
use Rattle.std.specs.Prelude.{ℕ, List, [], ◌++◌, codes}
use Rattle.std.specs.Fmt.{decimal}
use Rattle.refusal.specs.declared.Cause.{Cause}
use Rattle.refusal.specs.declared.Cause.TheVariants.{TooFewDays, MissingLoad, OutOfRange}
use Rattle.refusal.specs.declared.NoFigure.{NoFigure}
use Rattle.refusal.specs.declared.Refusal.{Refusal}
use Rattle.refusal.specs.declared.Refusal.TheVariants.{BadMonth, BadClasses, BadFirstDay, ResourceCount, BadResource, BuyerCount, ShortLists, UnknownMethod, AlreadyOpened, NoSuchHour, HourAllotted, BadTotal, PurchaseCount, PurchasesExceedTotal, HourInCorrection, NoEnergies, HourNotAllotted, WrongSlip, NoSuchResource, NeitherPlanNorOrder, AboveLimit, MarkWithoutOrder, OutsideOrderHours, Scheduled, Mandatory, NoLine, NoSuchBuyer, ShortBuffer}
use Rattle.refusal.specs.Numbers.{refusal_number}

abbrev pub cause_text : Cause → List ℕ
cause_text TooFewDays = codes "too few reference days"
cause_text MissingLoad = codes "missing load"
cause_text OutOfRange = codes "out of range"

-- the customer, and why
abbrev pub no_figure_text : NoFigure → List ℕ
no_figure_text lacking = codes "customer " ++ decimal lacking.customer ++ codes ": " ++ cause_text lacking.cause

-- a refusal in words
abbrev pub refusal_phrase : Refusal → List ℕ
refusal_phrase BadMonth = codes "bad month"
refusal_phrase BadClasses = codes "bad day classes"
refusal_phrase BadFirstDay = codes "bad first day"
refusal_phrase ResourceCount = codes "wrong number of resources"
refusal_phrase BadResource = codes "bad resource"
refusal_phrase BuyerCount = codes "wrong number of buyers"
refusal_phrase ShortLists = codes "lists too short"
refusal_phrase UnknownMethod = codes "unknown method"
refusal_phrase AlreadyOpened = codes "already opened"
refusal_phrase NoSuchHour = codes "no such hour"
refusal_phrase HourAllotted = codes "hour already allotted"
refusal_phrase BadTotal = codes "bad total"
refusal_phrase PurchaseCount = codes "wrong number of purchases"
refusal_phrase PurchasesExceedTotal = codes "purchases exceed the total"
refusal_phrase HourInCorrection = codes "hour in correction"
refusal_phrase NoEnergies = codes "no energies"
refusal_phrase HourNotAllotted = codes "hour not allotted"
refusal_phrase WrongSlip = codes "wrong slip"
refusal_phrase NoSuchResource = codes "no such resource"
refusal_phrase NeitherPlanNorOrder = codes "neither plan nor order"
refusal_phrase AboveLimit = codes "above the limit"
refusal_phrase MarkWithoutOrder = codes "mark without an order"
refusal_phrase OutsideOrderHours = codes "outside the order hours"
refusal_phrase (Scheduled lacking) = codes "scheduled source"
refusal_phrase (Mandatory lacking) = codes "mandatory source"
refusal_phrase NoLine = codes "no line"
refusal_phrase NoSuchBuyer = codes "no such buyer"
refusal_phrase ShortBuffer = codes "buffer too short"

-- what a refusal says of a source besides: the customer for whom it has no figure
abbrev pub refusal_rest : Refusal → List ℕ
refusal_rest BadMonth = []
refusal_rest BadClasses = []
refusal_rest BadFirstDay = []
refusal_rest ResourceCount = []
refusal_rest BadResource = []
refusal_rest BuyerCount = []
refusal_rest ShortLists = []
refusal_rest UnknownMethod = []
refusal_rest AlreadyOpened = []
refusal_rest NoSuchHour = []
refusal_rest HourAllotted = []
refusal_rest BadTotal = []
refusal_rest PurchaseCount = []
refusal_rest PurchasesExceedTotal = []
refusal_rest HourInCorrection = []
refusal_rest NoEnergies = []
refusal_rest HourNotAllotted = []
refusal_rest WrongSlip = []
refusal_rest NoSuchResource = []
refusal_rest NeitherPlanNorOrder = []
refusal_rest AboveLimit = []
refusal_rest MarkWithoutOrder = []
refusal_rest OutsideOrderHours = []
refusal_rest (Scheduled lacking) = codes ": " ++ no_figure_text lacking
refusal_rest (Mandatory lacking) = codes ": " ++ no_figure_text lacking
refusal_rest NoLine = []
refusal_rest NoSuchBuyer = []
refusal_rest ShortBuffer = []

-- the number, and the words
abbrev pub refusal_text : Refusal → List ℕ
refusal_text r = codes "refusal " ++ decimal (refusal_number r) ++ codes ": " ++ refusal_phrase r ++ refusal_rest r

-- The numbers of reasons and layers, and what a refusal of each kind says.
use Rattle.std.specs.Prelude.{ℕ, cond, ◌==◌}
use Rattle.base.specs.declared.reasons.Reason.{Reason}
use Rattle.base.specs.declared.reasons.Reason.TheVariants.{EndsEarly, WrongWord, OutsideLimits, PathNotRising, WrongEndCount, WrongLine, WrongValue, NotRising, BufferShort, TraceFull, RecordsFull, OwnedByOther, KindDiffers, NoRecord, WrongState, OwnersFull}
use Rattle.base.specs.declared.reasons.Layer.{Layer}
use Rattle.base.specs.declared.reasons.Layer.TheVariants.{Station, Words, Items, Text}
use Rattle.base.specs.declared.reasons.Refusal.{Refusal}

abbrev pub number : Reason → ℕ
number EndsEarly = 1
number WrongWord = 2
number OutsideLimits = 3
number PathNotRising = 4
number WrongEndCount = 5
number WrongLine = 6
number WrongValue = 7
number NotRising = 8
number BufferShort = 9
number TraceFull = 11
number RecordsFull = 12
number OwnedByOther = 13
number KindDiffers = 14
number NoRecord = 15
number WrongState = 16
number OwnersFull = 17

abbrev pub rank : Layer → ℕ
rank Station = 0
rank Words = 1
rank Items = 2
rank Text = 3

-- a fault of input words is in layer 1 where the word itself is wrong (number 2), and in layer 2 otherwise
abbrev pub word_layer : Reason → Layer
word_layer reason = cond (number reason == 2) Words Items

abbrev pub word_refusal : Reason → ℕ → Refusal
word_refusal reason place = record { reason = reason; place = place; layer = word_layer reason }

abbrev pub text_refusal : Reason → ℕ → Refusal
text_refusal reason place = record { reason = reason; place = place; layer = Text }

abbrev pub state_refusal : Reason → Refusal
state_refusal reason = record { reason = reason; place = 0; layer = Station }

-- The worked figures: baselines, adjustments, lines and shares.
use Rattle.std.specs.Prelude.{◌≡◌, ℕ, Bool, true, false, List, [], ◌∷◌, ℤ, pos, negsuc, ◌+ℤ◌, Some, codes}
use Rattle.std.specs.List.{AllByRecursion}
use Rattle.baseline.specs.Sources.{brought_by}
use Rattle.settlement.specs.declared.terms.Line.{Line}
use Rattle.settlement.specs.declared.terms.Terms.{Terms}
use Rattle.settlement.specs.Figures.{line_of}
use Rattle.share.specs.Shares.{shares}
use Rattle.figures.specs.Workdays.{baseline_after, left_after}

-- a baseline with a gap before the day's first order
abbrev pub adjusted : ℤ → ℤ → List ℤ
adjusted baseline gap = brought_by baseline (Some gap) ∷ []

-- terms by plan, order, emergency mark, SMP and MGP, without the test mark
abbrev pub terms : ℕ → ℕ → Bool → ℕ → ℕ → Terms
terms plan order emergency smp mgp = record { plan = plan; order = order; emergency = emergency; test = false; smp = smp; mgp = mgp }

-- what a line pays for plan and order together
abbrev pub paid : Line → ℤ
paid line = line.plan_pay +ℤ line.order_pay

-- SLR, paid and fined of a line
abbrev pub slr_paid_fined : Line → List ℤ
slr_paid_fined line = pos line.slr ∷ paid line ∷ pos line.fined ∷ []

-- each figure, and what it is
abbrev pub figures : List (List ℤ × List ℤ)
figures =
    -- max45 of 10, 20, 30, 40, 50 is 35
    (baseline_after (codes "max45") (10 ∷ 20 ∷ 30 ∷ 40 ∷ 50 ∷ []), pos 35 ∷ [])
    -- of 1, 2, 2, 2, 1, oldest first, it is 2, and the first day is struck
    ∷ (baseline_after (codes "max45") (1 ∷ 2 ∷ 2 ∷ 2 ∷ 1 ∷ []), pos 2 ∷ [])
    ∷ (left_after (codes "max45") (1 ∷ 2 ∷ 2 ∷ 2 ∷ 1 ∷ []), pos 4 ∷ pos 3 ∷ pos 2 ∷ pos 1 ∷ [])
    -- mid46 of 10, 20, 30, 40, 50, 61 is 35; mid610 of 1 to 10 is 6
    ∷ (baseline_after (codes "mid46") (10 ∷ 20 ∷ 30 ∷ 40 ∷ 50 ∷ 61 ∷ []), pos 35 ∷ [])
    ∷ (baseline_after (codes "mid610") (1 ∷ 2 ∷ 3 ∷ 4 ∷ 5 ∷ 6 ∷ 7 ∷ 8 ∷ 9 ∷ 10 ∷ []), pos 6 ∷ [])
    -- baseline 200 with gap 29 is 210, with -29 is 190, with -2 is 199
    ∷ (adjusted (pos 200) (pos 29), pos 210 ∷ [])
    ∷ (adjusted (pos 200) (negsuc 28), pos 190 ∷ [])
    ∷ (adjusted (pos 200) (negsuc 1), pos 199 ∷ [])
    -- order 1,000,000 Wh, DR 1,300,000 Wh, MGP 150 won: 180,000 won, in an emergency 195,000 won
    ∷ (paid (line_of (terms 0 1000000 false 0 15000) (pos 0) (pos 1300000)) ∷ [], pos 180000 ∷ [])
    ∷ (paid (line_of (terms 0 1000000 true 0 15000) (pos 0) (pos 1300000)) ∷ [], pos 195000 ∷ [])
    -- plan 500,000 Wh, SR 1,300,000 Wh, order and DR 1,000,000 Wh, SMP 120.50 won: SLR 300,000 Wh, 36,150 won paid for it, fined 0
    ∷ (slr_paid_fined (line_of (terms 500000 1000000 false 12050 0) (pos 1300000) (pos 1000000)), pos 300000 ∷ pos 36150 ∷ pos 0 ∷ [])
    -- plan 100 Wh, SR -5 Wh, SMP 120.50 won: paid 0, fined 12 won
    ∷ (slr_paid_fined (line_of (terms 100 0 false 12050 0) (negsuc 4) (pos 0)), pos 0 ∷ pos 0 ∷ pos 12 ∷ [])
    -- 100 won over 1, 1, 1 kWh: 33, 33, 34; 2 won: 0, 1, 1; 100 won over 0, 4, 6 kWh: 0, 40, 60
    ∷ (shares (pos 100) (1 ∷ 1 ∷ 1 ∷ []) 3, pos 33 ∷ pos 33 ∷ pos 34 ∷ [])
    ∷ (shares (pos 2) (1 ∷ 1 ∷ 1 ∷ []) 3, pos 0 ∷ pos 1 ∷ pos 1 ∷ [])
    ∷ (shares (pos 100) (0 ∷ 4 ∷ 6 ∷ []) 3, pos 0 ∷ pos 40 ∷ pos 60 ∷ [])
    ∷ []

-- each of them is what it is said to be
abbrev pub FiguresHold : Type 0
FiguresHold = AllByRecursion (λ f. f.0 ≡ f.1) figures

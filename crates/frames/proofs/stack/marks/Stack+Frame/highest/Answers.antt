use Rattle.std.proofs.Common.{rules, tests, ◌≡◌, ℕ, max, List, [], ◌∷◌, ◌++◌, map, reverse, take, ap, arith}
use Rattle.std.specs.List.{fold}
use Rattle.std.specs.Option.{unwrap_or}
use Rattle.std.proofs.lemmas.Iterator.{YieldsList-from_slice, YieldsList-from_map}
use Rattle.std.proofs.lemmas.Iterator.Consumers.{reduce_from_yields_List}
use Rattle.std.proofs.lemmas.List.{reverse-append}
use Rattle.std.proofs.lemmas.List.Folds.{max_of_map}
use Rattle.frames.specs.declared.frame.Frame.{Frame}
use Rattle.frames.specs.Shown.{shown}
use Rattle.frames.proofs.stack.marks.Stack+Frame.highest.Goals as goal
use Rattle.runs.specs.State.{highest}

highest-last : (fs : List Frame) (f : Frame) → highest (map shown (fs ++ f ∷ [])) ≡ max f.mark (highest (map shown fs))
highest-last [] f = omega arith
highest-last (h ∷ fs) f = omega (arith, highest-last fs f)

-- the order in which marks are compared doesn't matter
fold-marks : (most : ℕ) (fs : List Frame) → fold (λ m f. max m f.mark) most fs ≡ max most (highest (map shown (reverse fs)))
fold-marks most [] = omega arith
fold-marks most (f ∷ fs) = omega (arith, fold-marks (max most f.mark) fs, ap (λ xs. highest (map shown xs)) (reverse-append (f ∷ []) fs), highest-last (reverse fs) f)

pub returns : goal.returns
returns c =
    let frames = take c.self.inside.count c.self.inside.items in
    let whole = reduce_from_yields_List _ c.map.result c.max.result c.max.ensures.ran (YieldsList-from_map _ (λ f. f.mark) (YieldsList-from_slice frames cc) c.map.ensures.closure (λ x r q k. search (rules, tests))) in
    omega (arith, c.unwrap_or.ensures, ap (λ r. unwrap_or r 0) whole, max_of_map (λ f. f.mark) frames, fold-marks 0 frames, ap (λ fs. highest (map shown fs)) c.self.view_is)

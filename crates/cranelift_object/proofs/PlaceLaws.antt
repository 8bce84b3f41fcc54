-- Where definitions stand and end.
use Rattle.std.proofs.Common.{◌≡◌, ℕ, ◌+◌, ◌==◌, ◌<◌, ◌≤◌, ◌++◌, ◌∷◌, List, [], Bool, true, false, cond, map, refl, ap, ◌∙◌, arith, eq-eqb}
use Rattle.std.proofs.lemmas.List.{append-nil, map-append}
use Rattle.std.proofs.lemmas.List.Elements.{All-nil, All-push, All-weaker, filter-append}
use Rattle.std.proofs.lemmas.List.Sums.{sum_by_push}
use Rattle.std.specs.Prelude.{sum_by}
use Rattle.std.specs.List.{All, filter}
use Rattle.std.specs.Int.{next_multiple_of}
use Rattle.ir_core.specs.Moments.{Moment, moments}
use Rattle.ir_core.proofs.MomentLaws.{moments-end, by_end}
use Rattle.object_core.specs.Places.{end_of}
use Rattle.cranelift_module.specs.Definitions.{Definition}
use Rattle.cranelift_module.specs.LinkState.{LinkState}
use Rattle.cranelift_object.specs.Settings.{Settings}
use Rattle.cranelift_object.specs.Placing.{Placed, placed_at, room_of, align_of, extent_of, number_of, standing_in}
use Rattle.cranelift_object.specs.Partial.{placed_of}
use Rattle.cranelift_object.proofs.SectionLaws.{end_of-end}
use Rattle.cranelift_object.proofs.ClassLaws.{placed_of-end, All-front, All-last}

align_up : (x y : ℕ) → 0 < y → x ≤ next_multiple_of x y
align_up x y h = omega arith

pub align_over : (x y : ℕ) → 0 < y → next_multiple_of x y ≤ x + y
align_over x y h = omega arith

-- what a definition asks for
abbrev pub asked : LinkState → Definition → ℕ
asked s d = room_of s d + align_of s d

pub align_positive : (s : LinkState) (d : Definition) → 1 ≤ d.align → 0 < align_of s d
align_positive s d h = omega arith

kept_or_not : (settings : Settings) (s : LinkState) (k : ℕ) (ds : List Definition) (d : Definition) (b : Bool) → 1 ≤ d.align → end_of (map (extent_of s) (standing_in settings s k ds)) ≤ sum_by (asked s) ds
    → end_of (map (extent_of s) (standing_in settings s k ds ++ map (λ (m : Moment Definition). m.here) (cond b (record { before = ds; here = d } ∷ []) []))) ≤ sum_by (asked s) ds + asked s d
kept_or_not settings s k ds d true least h =
    let over = align_over (end_of (map (extent_of s) (standing_in settings s k ds))) (align_of s d) (align_positive s d least) in
    rw (map-append, end_of-end) (omega (arith, h, over))
kept_or_not settings s k ds d false least h = rw append-nil (omega (arith, h))

standing_none : (settings : Settings) (s : LinkState) (k : ℕ) → end_of (map (extent_of s) (standing_in settings s k [])) ≤ 0
unfolding standing_in moments end_of
standing_none settings s k = omega arith

standing-end : (settings : Settings) (s : LinkState) (k : ℕ) (ds : List Definition) (d : Definition)
    → standing_in settings s k (ds ++ d ∷ []) ≡ standing_in settings s k ds ++ map (λ (m : Moment Definition). m.here) (cond (number_of settings s (record { before = ds; here = d }) == k) (record { before = ds; here = d } ∷ []) [])
unfolding standing_in
standing-end settings s k ds d =
    let test : Moment Definition → Bool = λ m. number_of settings s m == k in
    let here : Moment Definition → Definition = λ m. m.here in
    ap (λ (ms : List (Moment Definition)). map here (filter test ms)) (moments-end ds d) ∙ ap (map here) (filter-append test (moments ds) (record { before = ds; here = d } ∷ [])) ∙ map-append here (filter test (moments ds)) (filter test (record { before = ds; here = d } ∷ []))

standing_more : (settings : Settings) (s : LinkState) (k : ℕ) (ds : List Definition) (d : Definition) → end_of (map (extent_of s) (standing_in settings s k ds)) ≤ sum_by (asked s) ds → 1 ≤ d.align → end_of (map (extent_of s) (standing_in settings s k (ds ++ d ∷ []))) ≤ sum_by (asked s) (ds ++ d ∷ [])
standing_more settings s k ds d h least =
    rw (standing-end settings s k ds d, sum_by_push (asked s) ds d) (kept_or_not settings s k ds d (number_of settings s (record { before = ds; here = d }) == k) least h)

-- the definitions of a section end within what all ask for
pub standing_within : (settings : Settings) (s : LinkState) (k : ℕ) (ds : List Definition) → All (λ (d : Definition). 1 ≤ d.align) ds → end_of (map (extent_of s) (standing_in settings s k ds)) ≤ sum_by (asked s) ds
standing_within settings s k = by_end (λ ds. All (λ (d : Definition). 1 ≤ d.align) ds → end_of (map (extent_of s) (standing_in settings s k ds)) ≤ sum_by (asked s) ds) (λ all. standing_none settings s k) (λ ds d h all. standing_more settings s k ds d (h (All-front (λ (x : Definition). 1 ≤ x.align) ds d all)) (All-last (λ (x : Definition). 1 ≤ x.align) ds d all))

places_none : (settings : Settings) (s : LinkState) → All (λ (p : Placed). p.offset ≤ 0) (placed_of settings s [])
unfolding moments
places_none settings s = All-nil (λ (p : Placed). p.offset ≤ 0)

places_more : (settings : Settings) (s : LinkState) (ds : List Definition) (d : Definition) → All (λ (p : Placed). p.offset ≤ sum_by (asked s) ds) (placed_of settings s ds) → All (λ (x : Definition). 1 ≤ x.align) (ds ++ d ∷ [])
    → All (λ (p : Placed). p.offset ≤ sum_by (asked s) (ds ++ d ∷ [])) (placed_of settings s (ds ++ d ∷ []))
places_more settings s ds d h all =
    let m : Moment Definition = record { before = ds; here = d } in
    let k : ℕ = number_of settings s m in
    let least = All-last (λ (x : Definition). 1 ≤ x.align) ds d all in
    let end = standing_within settings s k ds (All-front (λ (x : Definition). 1 ≤ x.align) ds d all) in
    let over = align_over (end_of (map (extent_of s) (standing_in settings s k ds))) (align_of s d) (align_positive s d least) in
    let pushed = sum_by_push (asked s) ds d in
    let here : (placed_at settings s m).offset ≤ sum_by (asked s) (ds ++ d ∷ []) = omega (arith, end, over, pushed) in
    let before = All-weaker (λ (p : Placed). p.offset ≤ sum_by (asked s) ds) (λ (p : Placed). p.offset ≤ sum_by (asked s) (ds ++ d ∷ [])) (λ p l. omega (arith, l, pushed)) (placed_of settings s ds) h in
    rw (placed_of-end settings s ds d) (All-push (λ (p : Placed). p.offset ≤ sum_by (asked s) (ds ++ d ∷ [])) (placed_of settings s ds) (placed_at settings s m) before here)

-- each definition stands within what all ask for
pub places_within : (settings : Settings) (s : LinkState) (ds : List Definition) → All (λ (d : Definition). 1 ≤ d.align) ds → All (λ (p : Placed). p.offset ≤ sum_by (asked s) ds) (placed_of settings s ds)
places_within settings s = by_end (λ ds. All (λ (d : Definition). 1 ≤ d.align) ds → All (λ (p : Placed). p.offset ≤ sum_by (asked s) ds) (placed_of settings s ds)) (λ all. places_none settings s) (λ ds d h all. places_more settings s ds d (h (All-front (λ (x : Definition). 1 ≤ x.align) ds d all)) all)

-- -- ends in a section

-- a definition ends within the extents of its section
abbrev EndsWithin : LinkState → ℕ → ℕ → Placed → Type 0
EndsWithin s k end p = p.section ≡ k → p.offset + room_of s p.definition ≤ end

ends_none : (settings : Settings) (s : LinkState) (k : ℕ) → All (EndsWithin s k (end_of (map (extent_of s) (standing_in settings s k [])))) (placed_of settings s [])
unfolding moments
ends_none settings s k = All-nil (EndsWithin s k (end_of (map (extent_of s) (standing_in settings s k []))))

grows_from : (settings : Settings) (s : LinkState) (k : ℕ) (ds : List Definition) (d : Definition) (b : Bool) → 1 ≤ d.align
    → end_of (map (extent_of s) (standing_in settings s k ds)) ≤ end_of (map (extent_of s) (standing_in settings s k ds ++ map (λ (m : Moment Definition). m.here) (cond b (record { before = ds; here = d } ∷ []) [])))
grows_from settings s k ds d true least =
    let end : ℕ = end_of (map (extent_of s) (standing_in settings s k ds)) in
    let up : end ≤ next_multiple_of end (align_of s d) = align_up end (align_of s d) (align_positive s d least) in
    rw (map-append, end_of-end) (omega (arith, up))
grows_from settings s k ds d false least = rw append-nil (omega arith)

-- the extents of a section grow
standing_grows : (settings : Settings) (s : LinkState) (k : ℕ) (ds : List Definition) (d : Definition) → 1 ≤ d.align → end_of (map (extent_of s) (standing_in settings s k ds)) ≤ end_of (map (extent_of s) (standing_in settings s k (ds ++ d ∷ [])))
standing_grows settings s k ds d least = rw (standing-end settings s k ds d) (grows_from settings s k ds d (number_of settings s (record { before = ds; here = d }) == k) least)

last_end : (settings : Settings) (s : LinkState) (k : ℕ) (ds : List Definition) (d : Definition) → number_of settings s (record { before = ds; here = d }) ≡ k
    → (placed_at settings s (record { before = ds; here = d })).offset + room_of s d ≤ end_of (map (extent_of s) (standing_in settings s k (ds ++ d ∷ [])))
last_end settings s k ds d e =
    rw (standing-end settings s k ds d, e, eq-eqb k k refl, map-append, end_of-end) (omega arith)

ends_more : (settings : Settings) (s : LinkState) (k : ℕ) (ds : List Definition) (d : Definition) → All (EndsWithin s k (end_of (map (extent_of s) (standing_in settings s k ds)))) (placed_of settings s ds) → 1 ≤ d.align
    → All (EndsWithin s k (end_of (map (extent_of s) (standing_in settings s k (ds ++ d ∷ []))))) (placed_of settings s (ds ++ d ∷ []))
ends_more settings s k ds d h least =
    let now : ℕ = end_of (map (extent_of s) (standing_in settings s k ds)) in
    let later : ℕ = end_of (map (extent_of s) (standing_in settings s k (ds ++ d ∷ []))) in
    let grows = standing_grows settings s k ds d least in
    let before = All-weaker (EndsWithin s k now) (EndsWithin s k later) (λ p w e. let end : p.offset + room_of s p.definition ≤ now = w e in omega (arith, end, grows)) (placed_of settings s ds) h in
    let here : EndsWithin s k later (placed_at settings s (record { before = ds; here = d })) = λ e. last_end settings s k ds d e in
    rw (placed_of-end settings s ds d) (All-push (EndsWithin s k later) (placed_of settings s ds) (placed_at settings s (record { before = ds; here = d })) before here)

-- each definition ends within the extents of its section
pub ends_within : (settings : Settings) (s : LinkState) (k : ℕ) (ds : List Definition) → All (λ (d : Definition). 1 ≤ d.align) ds
    → All (λ (p : Placed). p.section ≡ k → p.offset + room_of s p.definition ≤ end_of (map (extent_of s) (standing_in settings s k ds))) (placed_of settings s ds)
ends_within settings s k =
    by_end (λ ds. All (λ (d : Definition). 1 ≤ d.align) ds → All (EndsWithin s k (end_of (map (extent_of s) (standing_in settings s k ds)))) (placed_of settings s ds)) (λ all. ends_none settings s k)
    (λ ds d h all. ends_more settings s k ds d (h (All-front (λ (x : Definition). 1 ≤ x.align) ds d all)) (All-last (λ (x : Definition). 1 ≤ x.align) ds d all))

-- Document 01, "Causes", 4, 5 and 7 to 10: that none of them refuses, of lent tables.
use Rattle.std.specs.Prelude.{ℕ, ◌+◌, ◌*◌, ◌/◌, ◌%◌, ◌^◌, ◌≤◌, ◌<◌, ◌≡◌, ◌≢◌, Bool, true, cond, List, eqb, leb, ℤ, pos, length, get_or}
use Rattle.lists.specs.Fold.{sum}
use Rattle.signed.specs.Sign.{is_negative, size}
use Rattle.model.specs.Mesh.{rim, ceiling, entering, leaving}
use Rattle.model.specs.Causes.{fine, each, faces_only, ends_fit, spacing_fit, outside_fit, flux_fit}
use Rattle.check_flows.specs.Flows.{inflow, outflow}

abbrev pub half : ℕ
half = 4294967296

-- 4 and 5 of one face, 7 and 8, and all four
abbrev pub ShapeFine : (cells first second share reach : ℕ) → Type 0
ShapeFine cells first second share reach = (ends_fit cells first second ≡ true) × (spacing_fit ceiling second share reach ≡ true)

abbrev pub WaterFine : (second reach : ℕ) → Bool → (amount outside : ℕ) → Type 0
WaterFine second reach inward amount outside = (outside_fit second inward outside ≡ true) × (flux_fit ceiling second reach amount ≡ true)

abbrev pub FaceFine : (cells first second share reach : ℕ) → Bool → (amount outside : ℕ) → Type 0
FaceFine cells first second share reach inward amount outside = ShapeFine cells first second share reach × WaterFine second reach inward amount outside

-- of the faces below n
abbrev pub FacesShaped : (cells n : ℕ) (firsts seconds shares reaches : List ℕ) → Type 0
FacesShaped cells n firsts seconds shares reaches =
    (f : ℕ) → f < n → ShapeFine cells (get_or firsts f 0) (get_or seconds f 0) (get_or shares f 0) (get_or reaches f 0)

abbrev pub FacesFine : (cells n : ℕ) (firsts seconds shares reaches : List ℕ) → List ℤ → List ℕ → Type 0
FacesFine cells n firsts seconds shares reaches fluxes outsides =
    (f : ℕ) → f < n
    → FaceFine cells (get_or firsts f 0) (get_or seconds f 0) (get_or shares f 0) (get_or reaches f 0)
    (is_negative (get_or fluxes f (pos 0))) (size (get_or fluxes f (pos 0))) (get_or outsides f 0)

-- a face's ends among the cells, and the sums of the cells with room for one face more
abbrev pub EndsIn : (cells first second : ℕ) → Type 0
EndsIn cells first second = (first < cells) × (second ≢ rim → second < cells)

abbrev pub RoomLeft : ℕ → List ℕ → Type 0
RoomLeft cells xs = (c : ℕ) → c < cells → get_or xs c 0 + (half + 1) * ceiling < 2 ^ 64

-- a face's flux counted: what a cell's entry gains where the water reaches it, and where the water leaves it
abbrev pub counts : Bool → (first second amount c : ℕ) → ℕ
counts inward first second amount c = cond (eqb (cond inward first second) c) amount 0 + half * cond (eqb (cond inward second first) c) amount 0

abbrev pub Counted : ℕ → (before after : List ℕ) → Bool → (first second amount : ℕ) → Type 0
Counted cells xs ys inward first second amount = (c : ℕ) → c < cells → get_or ys c 0 ≡ get_or xs c 0 + counts inward first second amount c

-- inflow and outflow of a cell through the faces below n, in one number
unfoldable pub counted_below : ℕ → (firsts seconds : List ℕ) → List ℤ → ℕ → ℕ
counted_below n firsts seconds fluxes c =
    sum n (entering (faces_only n firsts seconds) (λ f. get_or fluxes f (pos 0)) c)
    + half * sum n (leaving (faces_only n firsts seconds) (λ f. get_or fluxes f (pos 0)) c)

-- the sums of the cells, so far
abbrev pub SumsAre : (cells n : ℕ) (firsts seconds : List ℕ) → List ℤ → List ℕ → Type 0
SumsAre cells n firsts seconds fluxes xs = (c : ℕ) → c < cells → get_or xs c 0 ≡ counted_below n firsts seconds fluxes c

-- 9 and 10 of one such number
abbrev pub SumFits : (volume both : ℕ) → Type 0
SumFits volume both = (both % half ≡ both / half) × (both / half ≤ volume)

-- past causes 1 and 2
abbrev pub TablesLong : ℕ → (firsts seconds shares reaches : List ℕ) → List ℤ → List ℕ → Type 0
TablesLong faces firsts seconds shares reaches fluxes outsides =
    (faces ≤ length firsts)
    × (faces ≤ length seconds)
    × (faces ≤ length shares)
    × (faces ≤ length reaches)
    × (faces ≤ length fluxes)
    × (faces ≤ length outsides)

-- none of 4, 5 and 7 to 10 refuses
abbrev pub FacesPass : (cells faces : ℕ) (volumes firsts seconds shares reaches : List ℕ) → List ℤ → List ℕ → Type 0
FacesPass cells faces volumes firsts seconds shares reaches fluxes outsides =
    (each 4 faces (λ f. ends_fit cells (get_or firsts f 0) (get_or seconds f 0)) ≡ fine)
    × (each 5 faces (λ f. spacing_fit ceiling (get_or seconds f 0) (get_or shares f 0) (get_or reaches f 0)) ≡ fine)
    × (each 7 faces (λ f. outside_fit (get_or seconds f 0) (is_negative (get_or fluxes f (pos 0))) (get_or outsides f 0)) ≡ fine)
    × (each 8 faces (λ f. flux_fit ceiling (get_or seconds f 0) (get_or reaches f 0) (size (get_or fluxes f (pos 0)))) ≡ fine)
    × (each 9 cells (λ c. eqb (inflow faces firsts seconds fluxes c) (outflow faces firsts seconds fluxes c)) ≡ fine)
    × (each 10 cells (λ c. leb (outflow faces firsts seconds fluxes c) (get_or volumes c 0)) ≡ fine)

-- HOW LONG A LIST IS AT MOST, within the limits of listing and settings: 18,777 consults for a bare name, and a number of 32 bits for one
-- that begins with "#".
use Rattle.std.specs.Prelude.{◌≡◌, true, false, ◌&&◌, ℕ, ◌+◌, ◌*◌, ◌≤◌, length, List, ◌⊎◌, ◌<◌, take}
use Rattle.std.proofs.Common.{sym, ◌∙◌, arith, inl, inr}
use Rattle.laws.specs.TextLaws.{and_true}
use Rattle.definition.specs.Path.{dirs}
use Rattle.laws.specs.WalkPathLaws.{length_dirs}
use Rattle.definition.specs.Text.{Text, all}
use Rattle.definition.specs.Listing.{directory_entry, entry_at, found_at, is_directory_of, rows, height, passes30, passes31, accepted, row_fits, sizes_fit}
use Rattle.definition.specs.Ask.{directory, state_of, seen, go, contents_of}
use Rattle.definition.specs.Settings.{Settings, settings_of, passes24}
use Rattle.definition.specs.Manifest.{view, Manifest}
use Rattle.definition.specs.Walk.{bare}
use Rattle.definition.specs.Specifier.{is_hash}
use Rattle.definition.specs.Imports.{resolve}
use Rattle.laws.specs.LengthBound.{limits, W_low}
use Rattle.laws.specs.DepthLaws.{tall, folder_of, folder_at, height_low, few}
use Rattle.definition.specs.Called.{Question, seen_by, list_of, W, joined, paths}
use Rattle.laws.specs.AskLaws.{state_viewed}
use Rattle.laws.specs.SearchLaws.{found_folder}
use Rattle.std.proofs.Math.Option.{some}
use Rattle.std.proofs.Math.ListN.{length-take}
use Rattle.laws.specs.FitLaws.{dirs_short}
use Rattle.laws.specs.ImportsBound.{bare_most, target_most}
use Rattle.laws.specs.WalkBounds.{low_row}
use Rattle.laws.specs.DemandThree.{parts, short_list_lem}
use Rattle.laws.specs.LimitLaws.{limited_to, whole_list, needs, finishes, stops}
use Rattle.laws.specs.WalkBounds.{joined_short, all_fit}
use Rattle.laws.specs.ImportsCount.{hash_most, most_require_hash, Leafy, seen_leafy}

-- a bare name, within the limits: a list has never more than 18,777 consults
pub shortest_list : (q : Question) → is_hash q.specifier ≡ false → passes24 q.settings ≡ true → accepted q.listing ≡ true → is_directory_of q.listing q.start ≡ true
    → length (list_of q) ≤ 18777
unfolding entry_at settings_of
shortest_list q bare g a s =
    let h = height_low q.listing (parts q.listing a).0.0 in
    let d : length (dirs q.start) ≤ height (rows q.listing) = tall q.start (rows q.listing) (found_folder q.listing q.start (folder_at q.listing q.start s)) in
    let f = few q.settings g in
    let b = short_list_lem q bare s in
    let c = limits (settings_of q.settings) (length (dirs q.start)) (height (rows q.listing)) (omega arith) h f.extensions f.main_files f.main_fields in
    omega arith

-- 18,777 consults suffice for every bare name: with one more allowed, no list has more
pub enough : (q : Question) → is_hash q.specifier ≡ false → passes24 q.settings ≡ true → accepted q.listing ≡ true → is_directory_of q.listing q.start ≡ true
    → length (whole_list q) ≤ 18777
enough q bare g a s = by (needs (limited_to 18778 q)) (shortest_list (limited_to 18778 q) bare g a s)
  where
    by : (length (whole_list (limited_to 18778 q)) ≤ 18778) ⊎ (18778 < length (whole_list (limited_to 18778 q)))
        → length (list_of (limited_to 18778 q)) ≤ 18777
        → length (whole_list q) ≤ 18777
    by (inl k) h = unfold whole_list in (rw (finishes (limited_to 18778 q) k).list at h)
    by (inr k) h =
        let n : length (take 18778 (whole_list (limited_to 18778 q))) ≤ 18777 = rw (stops (limited_to 18778 q) k).list at h in
        absurd (omega (arith, length-take 18778 (whole_list (limited_to 18778 q))))

-- a list's text has at most 18,777 times 2,048 bytes: its length, too, is a number of 32 bits
pub text_short : (q : Question) → is_hash q.specifier ≡ false → passes24 q.settings ≡ true → accepted q.listing ≡ true → is_directory_of q.listing q.start ≡ true → length q.specifier ≤ 512
    → length (joined (paths (list_of q))) ≤ 38455296
text_short q bare g a s n =
    let l : length (list_of q) ≤ 18777 = shortest_list q bare g a s in
    omega (arith, joined_short (list_of q) (all_fit q a s n bare))

-- a "#" name, within 01's limits
hash_limits : (G : Settings) (h : ℕ) → h ≤ 33 → length G.extensions ≤ 8 → length G.main_files ≤ 4 → length G.main_fields ≤ 4 → hash_most G h ≤ 649412925
unfolding hash_most target_most bare_most
hash_limits G h hl el fl ml =
    let b : h + 2 * (h * W G h) ≤ 18777 = limits G h h hl hl el fl ml in
    let w : W G h ≤ 284 = W_low G h hl el fl ml in
    let t : 1025 * 2 + (h + ((h + 2 * (h * W G h)) + (h + 2 * (h * W G h)))) ≤ 39637 = omega arith in
    omega arith

-- THE COUNT of a "#" name's list, where nothing limits it, is a number of 32 bits
pub hash_list : (q : Question) → is_hash q.specifier ≡ true → passes24 q.settings ≡ true → accepted q.listing ≡ true → is_directory_of q.listing q.start ≡ true
    → length (whole_list q) ≤ 649412925
unfolding whole_list seen_by seen entry_at resolve accepted passes30 settings_of
hash_list q is g a s =
    let f = few q.settings g in
    rw is (omega (
      arith,
      (most_require_hash (seen_by G l) G h deep (omega (arith, start_deep, length_dirs q.start)) sees q.start q.specifier (dirs_short 1024 q.start start_low (omega arith)) start_deep).most,
      hash_limits G h (height_low l first) f.extensions f.main_files f.main_fields,
    ))
  where
    G : Settings
    G = settings_of q.settings

    l : List ℕ
    l = q.listing

    h : ℕ
    h = height (rows l)

    first : passes30 l ≡ true
    first = (and_true (passes30 l) (passes31 l) (and_true (passes30 l && passes31 l) _ a).0).0

    fits : all row_fits (rows l) ≡ true
    fits = (and_true (sizes_fit l) (all row_fits (rows l)) first).1

    folder_deep : (p : Text) → found_at l p ≡ directory_entry → length (dirs p) ≤ h
    folder_deep p e = tall p (rows l) (found_folder l p e)

    deep : (p : Text) → state_of (seen_by G l p) ≡ directory → length (dirs p) ≤ h
    deep p e = folder_deep p (folder_of (found_at l p) (sym (state_viewed (view G) (found_at l p)) ∙ e))

    start_deep : length (dirs q.start) ≤ h
    start_deep = folder_deep q.start (folder_at l q.start s)

    start_low : length q.start ≤ 1024
    start_low = low_row q.start (rows l) fits (found_folder l q.start (folder_at l q.start s))

    sees : (p : Text) (m : Manifest) → contents_of (seen_by G l p) ≡ some (go m) → Leafy m
    sees p m e = seen_leafy G (found_at l p) m e

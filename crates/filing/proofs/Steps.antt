-- Filing: going through the records to check them, with the set of the states that have a label.
use Rattle.std.proofs.Common.{◌≡◌, ℕ, ◌+◌, ◌-◌, ◌<◌, ◌≤◌, Bool, true, false, cond, ◌||◌, ltb, List, [], length, get_or, Some, None, Ok, Err, Option, Result, sym, refl, ap, ◌∙◌, subst, arith}
use Rattle.std.proofs.lemmas.Bool.{ltb-true}
use Rattle.std.proofs.lemmas.Bool.Decides.{nat_tests}
use Rattle.std.proofs.lemmas.Result.{err_from_is_err_and}
use Rattle.std.specs.Result.{MatchResult, IsErrAnd}
use Rattle.systems.specs.Sets.{has, set_of}
use Rattle.systems.proofs.Sets.{has-set_of}
use Rattle.filing.specs.declared.fault.Cause.{Cause}
use Rattle.filing.specs.declared.fault.Fault.{Fault}
use Rattle.systems.specs.declared.label.Label.{Ghosts}
use Rattle.filing.specs.declared.filed.Filed.{Filed}
use Rattle.filing.specs.declared.header.Header.{Header}
use Rattle.filing.specs.declared.record.Record.{Record}
use Rattle.filing.specs.Accepted.{has_header, contents_of, shape, meaning_in}
use Rattle.filing.specs.Contents.{Contents, Outcome, records_from, says_label, labelled_in, objection, with_header, header_at, contents, contents_after}
use Rattle.filing.specs.Format.{entry_at}
use Rattle.filing.specs.Place.{end_of, Leaves}
use Rattle.filing.specs.Steps.{fault_at, unless}
use Rattle.filing.proofs.Says.{set_more}
use Rattle.filing.specs.Shape.{header_blank}
use Rattle.filing.specs.Standing.{HeaderFits, header_fits}
use Rattle.filing.proofs.Walk.{Underway, entry_within, walk_ends, walk_fails, walk_objects, walk_goes_on}

-- ---- the steps' answers, read back

-- a closure that gives each cause its byte
pub faulted : {T : Type 0} (byte : ℕ) (x : Result T Cause) (r : Result T Fault) (Gives : Cause → Fault → Type 0) →
    ((c : Cause) (f : Fault) → Gives c f → f ≡ record { cause = c; byte = byte }) → MatchResult x (λ t. r ≡ Ok t) (λ c. IsErrAnd r (Gives c)) → r ≡ fault_at byte x
faulted byte (Ok t) r Gives gives is = is
faulted byte (Err c) r Gives gives is = let p = err_from_is_err_and r is in p.1 ∙ ap Err (gives c p.0 p.2)

pub passed : {T : Type 0} (byte : ℕ) (x : Result T Cause) (t : T) → fault_at byte x ≡ Ok t → x ≡ Ok t
passed byte (Ok u) t is = let same : u ≡ t = cc in ap Ok same
passed byte (Err c) t is = let z : ◌≡◌ {A = ℕ} 0 1 = cc in absurd (omega arith)

pub failed : {T : Type 0} (byte : ℕ) (x : Result T Cause) (f : Fault) → fault_at byte x ≡ Err f → (c : Cause) × (x ≡ Err c) × (f ≡ record { cause = c; byte = byte })
failed byte (Ok u) f is = let z : ◌≡◌ {A = ℕ} 0 1 = cc in absurd (omega arith)
failed byte (Err c) f is = let same : record { cause = c; byte = byte } ≡ f = cc in (c, refl, sym same)

allowed : {T : Type 0} (o : Option Cause) (t u : T) → unless o t ≡ Ok u → (o ≡ None) × (u ≡ t)
allowed None t u is = let same : t ≡ u = cc in (refl, sym same)
allowed (Some c) t u is = let z : ◌≡◌ {A = ℕ} 0 1 = cc in absurd (omega arith)

refused : {T : Type 0} (o : Option Cause) (t : T) (c : Cause) → unless o t ≡ Err c → o ≡ Some c
refused None t c is = let z : ◌≡◌ {A = ℕ} 0 1 = cc in absurd (omega arith)
refused (Some d) t c is = let same : d ≡ c = cc in ap Some same

-- ---- the objections, by the set

module _ {L : Type 0} (h : Header) (few : h.states ≤ 64) (labelled : ℕ) (rs : List (Record L)) (is : labelled ≡ set_of 64 (labelled_in rs)) where
  same_objection : (r : Record L) → objection h (has labelled) r ≡ objection h (labelled_in rs) r
  same_objection (Record.Move x y z) = refl
  same_objection (Record.Open x y) = refl
  same_objection (Record.Label x l) = by (ltb x h.states) refl
    where
      by : (b : Bool) → ltb x h.states ≡ b → cond b (cond (has labelled x) (Some Cause.SecondLabel) None) (Some Cause.Absent) ≡ cond b (cond (labelled_in rs x) (Some Cause.SecondLabel) None) (Some Cause.Absent)
      by true below = ap (λ b. cond b (Some Cause.SecondLabel) None) (ap (λ (s : ℕ). has s x) is ∙ has-set_of 64 (labelled_in rs) x (omega (arith, ltb-true x h.states below)))
      by false below = refl

-- ---- the walk

module _ {L : Type 0} (width : ℕ) (read : List ℕ → L) (bytes : List ℕ) (h : Header) (first : ℕ) where
  abbrev outcome : Outcome L
  outcome = records_from (length bytes) width read bytes h [] first

  abbrev pub Checks : ℕ → ℕ → Type 0
  Checks = Underway width read bytes h (λ rs. set_of 64 (labelled_in rs)) first

  module _ (at labelled : ℕ) (w : Checks at labelled) where
    pub checks_end : fault_at at (entry_at width read bytes at) ≡ Ok None → Ok at ≡ end_of (with_header h outcome)
    checks_end is = sym (ap (λ o. end_of (with_header h o)) (walk_ends width read bytes h _ outcome at labelled w (passed at _ None is)))

    pub checks_fail : (f : Fault) → fault_at at (entry_at width read bytes at) ≡ Err f → Err f ≡ end_of (with_header h outcome)
    checks_fail f is =
        let e = failed at (entry_at width read bytes at) f is in
        ap Err e.2 ∙ sym (ap (λ o. end_of (with_header h o)) (walk_fails width read bytes h _ outcome at labelled w e.0 e.1))

    module _ (few : h.states ≤ 64) (e : Record L × ℕ) (is : fault_at at (entry_at width read bytes at) ≡ Ok (Some e)) where
      entry_is : entry_at width read bytes at ≡ Ok (Some e)
      entry_is = passed at _ (Some e) is

      pub checks_less : length bytes - e.1 < length bytes - at
      checks_less = omega (arith, entry_within width read bytes at e entry_is)

      pub checks_object : (more : ℕ) (f : Fault) → fault_at at (unless (objection h (has labelled) e.0) more) ≡ Err f → Err f ≡ end_of (with_header h outcome)
      checks_object more f no' =
          let x = failed at (unless (objection h (has labelled) e.0) more) f no' in
          let o = refused (objection h (has labelled) e.0) more x.0 x.1 in
          ap Err x.2 ∙ sym (ap (λ o. end_of (with_header h o)) (walk_objects width read bytes h _ outcome at labelled w e entry_is x.0
          (sym (same_objection h few labelled w.earlier w.so_far e.0) ∙ o)))

      pub checks_on : (more : ℕ) → fault_at at (unless (objection h (has labelled) e.0) (set_of 64 (λ p. has labelled p || says_label e.0 p))) ≡ Ok more → Checks e.1 more
      checks_on more ok =
          let x = allowed (objection h (has labelled) e.0) (set_of 64 (λ p. has labelled p || says_label e.0 p)) more (passed at _ more ok) in
          walk_goes_on width read bytes h _ outcome at labelled w e entry_is
          (sym (same_objection h few labelled w.earlier w.so_far e.0) ∙ x.0)
          more (set_more labelled more (labelled_in w.earlier) (says_label e.0) w.so_far x.1)

-- ---- the whole

module _ {L : Type 0} (plain : L) (kind width : ℕ) (read : List ℕ → L) (bytes : List ℕ) (begin : ℕ) where
  abbrev all : Result (Contents L) Fault
  all = contents kind width read bytes begin

  -- refused bytes leave the place as it was
  pub refuses : (f : Fault) → all ≡ Err f → {ghosts : Ghosts L} (place : Filed L ghosts) → (Err f ≡ end_of all) × Leaves plain read bytes begin all place place
  refuses f is place = let P : Result (Contents L) Fault → Type 0 = λ x. (Err f ≡ end_of x) × Leaves plain read bytes begin x place place in subst P (sym is) (refl, refl)

  pub no_header : (f : Fault) → fault_at begin (header_at kind bytes begin) ≡ Err f → all ≡ Err f
  unfolding contents
  no_header f is =
      let e = failed begin (header_at kind bytes begin) f is in
      ap (contents_after kind width read bytes begin) e.1 ∙ ap Err (sym e.2)

  module _ (h : Header) (is : fault_at begin (header_at kind bytes begin) ≡ Ok h) where
    abbrev after_header : Result (Contents L) Fault
    after_header = with_header h (records_from (length bytes) width read bytes h [] (begin + 6))

    pub header_ok : HeaderFits kind bytes begin h
    header_ok = header_fits kind bytes begin h (passed begin _ h is)

    all_after : all ≡ after_header
    unfolding contents
    all_after = ap (contents_after kind width read bytes begin) (passed begin _ h is)

    pub no_end : (f : Fault) → Err f ≡ end_of after_header → all ≡ Err f
    no_end f e = all_after ∙ go after_header e
      where
        go : (x : Result (Contents L) Fault) → Err f ≡ end_of x → x ≡ Err f
        go (Ok c) e = let z : ◌≡◌ {A = ℕ} 0 1 = cc in absurd (omega arith)
        go (Err g) e = let same : f ≡ g = cc in ap Err (sym same)

    module _ (end : ℕ) (ended : Ok end ≡ end_of after_header) where
      accepts : (rs : List (Record L)) × (all ≡ Ok (record { header = h; records = rs; end = end }))
      accepts = go (records_from (length bytes) width read bytes h [] (begin + 6)) refl ended
        where
          go : (o : Outcome L) → records_from (length bytes) width read bytes h [] (begin + 6) ≡ o → Ok end ≡ end_of (with_header h o) → (rs : List (Record L)) × (all ≡ Ok (record { header = h; records = rs; end = end }))
          go (Ok o) are e = let same : o.1 ≡ end = cc in (o.0, all_after ∙ ap (with_header h) are ∙ ap (λ (n : ℕ). Ok (record { header = h; records = o.0; end = n })) same)
          go (Err f) are e = let z : ◌≡◌ {A = ℕ} 0 1 = cc in absurd (omega arith)

      -- the bytes name the kind that is filed
      of_kind : contents_of width read bytes begin ≡ all
      of_kind = ap (λ (k : ℕ). contents k width read bytes begin) (sym header_ok.named)

      pub has-shape : has_header h (shape width bytes begin) ≡ true
      has-shape =
          header_blank width read bytes (get_or bytes (begin + 5) 0) begin h ∙ ap (has_header h) (of_kind ∙ accepts.1) ∙ grind (arith, nat_tests)

      pub files : {ghosts : Ghosts L} → ghosts.WIDTH ≡ width → (before after : Filed L ghosts) → after.bytes.now ≡ bytes → after.begin ≡ begin →
          (Ok end ≡ end_of all) × Leaves plain read bytes begin all before after
      files {ghosts} width_is before after bytes_are begin_is =
          let P : Result (Contents L) Fault → Type 0 = λ x. (Ok end ≡ end_of x) × Leaves plain read bytes begin x before after in
          let same : contents_of ghosts.WIDTH read after.bytes.now after.begin ≡ contents_of width read bytes begin = cc in
          subst P (sym accepts.1) (refl, record { bytes_are = bytes_are; begin_is = begin_is; meaning_is = ap (meaning_in plain) (same ∙ of_kind ∙ accepts.1) })

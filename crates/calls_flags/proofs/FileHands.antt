-- The test of what was told of the bodies of files is one of the files themselves.
use Rattle.std.proofs.Common.{◌≡◌, ℕ, zero, suc, ◌⊎◌, Bool, true, false, inl, inr, List, [], ◌∷◌, Option, Some, None, Contains, refl, sym, ap, subst, ◌∙◌, arith}
use Rattle.std.specs.Prelude.{◌||◌, ◌==◌, if◌then◌else◌}
use Rattle.std.specs.List.{list_any}
use Rattle.std.proofs.lemmas.Bool.{false≢true, eq-eqb}
use Rattle.std.proofs.lemmas.Slice.Eq.{bytes_eq-Decides}
use Rattle.calls_flags.specs.HandedOn.{FilesAreHanded, is_path, event_hands, body_hands, told_hands}
use Rattle.calls_flags.specs.ToldFiles.{TellAllSeen, TellsSeen}
use Rattle.calls_flags.specs.declared.told_file.ToldFile.{ToldFile}
use Rattle.events.specs.ToldViews.{events_of_site, TellsFile}
use Rattle.events.specs.declared.told.SiteEvent.{SiteEvent}
use Rattle.events.specs.declared.told.Told.{Told}
use Rattle.lists.specs.ListViews.{items_at}
use Rattle.meaning.proofs.Membership.{contains_here, contains_there, contains_cases, contains_nil, contains_map, contains_unmap}
use Rattle.meaning.specs.BodyEvents.{events_at}
use Rattle.meaning.specs.Mentions.{BodyPlace}
use Rattle.meaning.specs.Uses.{Callee, go_call, go_pass, go_literal, Event, other, obtain, obtain_kept, renew, keep, call_kept, defer_kept, give, give_field, clear, call, defer_call, pass, defer_pass, lend, start, try, wait, defer_wait, make, defer_literal, go, return_event, Seen}
use Rattle.meaning_reports.specs.UsedImports.{HandsTo, passes, defers, lends, goes, HandsThere}
use Rattle.mentions.specs.MarkViews.{body_view}
use Rattle.mentions.specs.declared.mark.BodyPlace.{BodyPlace as KeptBody}
use Rattle.tracked_rows.specs.EventViews.{event_view}

-- Tests of lists

any_there : {A : Type 0} (f : A → Bool) (xs : List A) → list_any f xs ≡ true → (x : A) × Contains xs x × (f x ≡ true)
any_there f [] e = absurd (false≢true e)
any_there f (x ∷ xs) e = by (f x) refl e (any_there f xs)
  where
    by : (b : Bool) → f x ≡ b → (b || list_any f xs) ≡ true
        → (list_any f xs ≡ true → (y : _) × Contains xs y × (f y ≡ true))
        → (y : _) × Contains (x ∷ xs) y × (f y ≡ true)
    by true is h rest = (x, contains_here x xs, is)
    by false is h rest = let r = rest h in (r.0, contains_there x r.0 xs r.1, r.2)

any_true : {A : Type 0} (f : A → Bool) (xs : List A) (x : A) → Contains xs x → f x ≡ true → list_any f xs ≡ true
any_true f [] x c e = absurd (contains_nil x c)
any_true f (y ∷ ys) x c e = elim (contains_cases y x ys c) [
  | inl same ↦ ap (λ b. b || list_any f ys) (ap f same ∙ e)
  | inr more ↦ or_so (f y) (any_true f ys x more e)
]
  where
    or_so : (b : Bool) → list_any f ys ≡ true → (b || list_any f ys) ≡ true
    or_so true h = refl
    or_so false h = h

-- Events

is_its_path : (path : List ℕ) (o : Option (List ℕ)) → is_path path o ≡ true → o ≡ Some path
is_its_path path None e = absurd (false≢true e)
is_its_path path (Some its) e = ap (λ q. Some q) ((bytes_eq-Decides its path).0 e)

path_is : (path : List ℕ) (o : Option (List ℕ)) → o ≡ Some path → is_path path o ≡ true
path_is path o e = ap (is_path path) e ∙ (bytes_eq-Decides path path).1 refl

record Hands (path : List ℕ) (e : Event) : Type 0 where
  callee : Callee
  is_of : callee.path ≡ Some path
  hands : HandsTo callee e

hands_so : (path : List ℕ) (e : Event) → event_hands path e ≡ true → Hands path e
hands_so path (pass u f k) h = record { callee = f; is_of = is_its_path path f.path h; hands = passes }
hands_so path (defer_pass u f k) h = record { callee = f; is_of = is_its_path path f.path h; hands = defers }
hands_so path (lend v f k) h = record { callee = f; is_of = is_its_path path f.path h; hands = lends }
hands_so path other h = absurd (false≢true h)
hands_so path (obtain u c n is_new) h = absurd (false≢true h)
hands_so path (obtain_kept u c n x) h = absurd (false≢true h)
hands_so path (renew v x) h = absurd (false≢true h)
hands_so path (keep v x) h = absurd (false≢true h)
hands_so path (call_kept v x) h = absurd (false≢true h)
hands_so path (defer_kept v x) h = absurd (false≢true h)
hands_so path (give v x) h = absurd (false≢true h)
hands_so path (give_field v) h = absurd (false≢true h)
hands_so path (clear u) h = absurd (false≢true h)
hands_so path (call v) h = absurd (false≢true h)
hands_so path (defer_call v) h = absurd (false≢true h)
hands_so path (start v literal) h = absurd (false≢true h)
hands_so path (try v literal) h = absurd (false≢true h)
hands_so path (wait v) h = absurd (false≢true h)
hands_so path (defer_wait v) h = absurd (false≢true h)
hands_so path (make u state) h = absurd (false≢true h)
hands_so path (defer_literal at) h = absurd (false≢true h)
hands_so path (go (go_call u)) h = absurd (false≢true h)
hands_so path (go (go_pass f xs)) h = record { callee = f; is_of = is_its_path path f.path h; hands = goes }
hands_so path (go (go_literal at)) h = absurd (false≢true h)
hands_so path (return_event handed) h = absurd (false≢true h)

so_hands : (path : List ℕ) (f : Callee) (e : Event) → f.path ≡ Some path → HandsTo f e → event_hands path e ≡ true
so_hands path f e is passes = path_is path f.path is
so_hands path f e is defers = path_is path f.path is
so_hands path f e is lends = path_is path f.path is
so_hands path f e is goes = path_is path f.path is

-- Sites

site_has : (es : List SiteEvent) (e : SiteEvent) → Contains es e → Contains (events_of_site e.site es) (event_view e.event)
site_has [] e c = absurd (contains_nil e c)
site_has (x ∷ xs) e c = by (x.site == e.site) refl (contains_cases x e xs c) (site_has xs e)
  where
    by : (b : Bool) → (x.site == e.site) ≡ b → (x ≡ e) ⊎ Contains xs e → (Contains xs e → Contains (events_of_site e.site xs) (event_view e.event))
        → Contains (if b then event_view x.event ∷ events_of_site e.site xs else events_of_site e.site xs) (event_view e.event)
    by true is (inl same) rest =
        subst (λ (y : SiteEvent). Contains (event_view x.event ∷ events_of_site e.site xs) (event_view y.event)) same
        (contains_here (event_view x.event) (events_of_site e.site xs))
    by true is (inr more) rest =
        contains_there (event_view x.event) (event_view e.event) (events_of_site e.site xs) (rest more)
    by false is (inl same) rest =
        absurd (false≢true (sym is ∙ eq-eqb x.site e.site (ap (λ (y : SiteEvent). y.site) same)))
    by false is (inr more) rest = rest more

site_from : (at : ℕ) (es : List SiteEvent) (v : Event) → Contains (events_of_site at es) v
    → (e : SiteEvent) × Contains es e × (event_view e.event ≡ v)
site_from at [] v c = absurd (contains_nil v c)
site_from at (x ∷ xs) v c = by (x.site == at) c (site_from at xs v)
  where
    by : (b : Bool) → Contains (if b then event_view x.event ∷ events_of_site at xs else events_of_site at xs) v
        → (Contains (events_of_site at xs) v → (e : SiteEvent) × Contains xs e × (event_view e.event ≡ v))
        → (e : SiteEvent) × Contains (x ∷ xs) e × (event_view e.event ≡ v)
    by true k rest = elim (contains_cases (event_view x.event) v (events_of_site at xs) k) [
      | inl same ↦ (x, contains_here x xs, same)
      | inr more ↦ let r = rest more in (r.0, contains_there x r.0 xs r.1, r.2)
    ]
    by false k rest = let r = rest k in (r.0, contains_there x r.0 xs r.1, r.2)

-- One file

-- a body of the file does so
record HandsToPath (seen : Seen) (path : List ℕ) : Type 0 where
  callee : Callee
  is_of_path : callee.path ≡ Some path
  hands : HandsThere seen callee

module _ (told : Told) (seen : Seen) (tells : TellsFile seen told) (path : List ℕ) where
  abbrev test : KeptBody → Bool
  test b = body_hands path (items_at told.events b.at)

  forth : list_any test told.opened.items ≡ true → HandsToPath seen path
  forth e =
      let b = any_there test told.opened.items e in
      let i = any_there (λ (x : SiteEvent). event_hands path (event_view x.event)) (items_at told.events b.0.at) b.2 in
      let h = hands_so path (event_view i.0.event) i.2 in
      record {
        callee = h.callee;
        is_of_path = h.is_of;
        hands = record {
          body = body_view b.0;
          at = i.0.site;
          event = event_view i.0.event;
          is_of_file = subst (λ l. Contains l (body_view b.0)) tells.opened (contains_map body_view told.opened.items b.0 b.1);
          is_event = subst (λ l. Contains l (event_view i.0.event)) (tells.events b.0.at i.0.site)
              (site_has (items_at told.events b.0.at) i.0 i.1);
          hands = h.hands;
        };
      }

  back : HandsToPath seen path → list_any test told.opened.items ≡ true
  back h =
      let b = contains_unmap body_view told.opened.items h.hands.body
      (subst (λ l. Contains l h.hands.body) (sym tells.opened) h.hands.is_of_file) in
      let at : h.hands.body.at ≡ b.0.at = ap (λ (x : BodyPlace). x.at) (sym b.2) in
      let among = subst (λ n. Contains (events_at seen n seen.marks h.hands.at) h.hands.event) at h.hands.is_event in
      let i = site_from h.hands.at (items_at told.events b.0.at) h.hands.event
      (subst (λ l. Contains l h.hands.event) (sym (tells.events b.0.at h.hands.at)) among) in
      any_true test told.opened.items b.0 b.1
      (any_true (λ (x : SiteEvent). event_hands path (event_view x.event)) (items_at told.events b.0.at) i.0 i.1
      (ap (event_hands path) i.2 ∙ so_hands path h.callee h.hands.event h.is_of_path h.hands.hands))

-- All files

later_tell : (s : Seen) (k : ToldFile) (seens : List Seen) (kept : List ToldFile) → TellAllSeen (s ∷ seens) (k ∷ kept)
    → TellAllSeen seens kept
later_tell s k seens kept h = record {
  are_as_many = let e = h.are_as_many in omega (arith, e);
  each = λ n t l is_t is_l. h.each (suc n) t l is_t is_l;
}

seen_of : (seens : List Seen) (kept : List ToldFile) → TellAllSeen seens kept → (k : ToldFile) → Contains kept k
    → (s : Seen) × Contains seens s × TellsSeen s k
seen_of seens [] h k c = absurd (contains_nil k c)
seen_of [] (l ∷ ls) h k c = let e = h.are_as_many in absurd (omega (arith, e))
seen_of (s ∷ ss) (l ∷ ls) h k c = elim (contains_cases l k ls c) [
  | inl same ↦ (s, contains_here s ss, subst (TellsSeen s) same (h.each zero s l refl refl))
  | inr more ↦
      let r = seen_of ss ls (later_tell s l ss ls h) k more in
      (r.0, contains_there s r.0 ss r.1, r.2)
]

told_of_it : (seens : List Seen) (kept : List ToldFile) → TellAllSeen seens kept → (s : Seen) → Contains seens s
    → (k : ToldFile) × Contains kept k × TellsSeen s k
told_of_it [] kept h s c = absurd (contains_nil s c)
told_of_it (t ∷ ts) [] h s c = let e = h.are_as_many in absurd (omega (arith, e))
told_of_it (t ∷ ts) (l ∷ ls) h s c = elim (contains_cases t s ts c) [
  | inl same ↦ (l, contains_here l ls, subst (λ z. TellsSeen z l) same (h.each zero t l refl refl))
  | inr more ↦
      let r = told_of_it ts ls (later_tell t l ts ls h) s more in
      (r.0, contains_there l r.0 ls r.1, r.2)
]

pub are_handed : FilesAreHanded
are_handed seens kept path tell = (
  λ e.
      let k = any_there (λ k. told_hands path k.told) kept e in
      let s = seen_of seens kept tell k.0 k.1 in
      let h = forth k.0.told s.0 s.2.tells path k.2 in
      record { file = s.0; callee = h.callee; is_file = s.1; is_of_path = h.is_of_path; hands = h.hands },
  λ h.
      let k = told_of_it seens kept tell h.file h.is_file in
      any_true (λ k. told_hands path k.told) kept k.0 k.1
      (back k.0.told h.file k.2.tells path
      record { callee = h.callee; is_of_path = h.is_of_path; hands = h.hands }),
)

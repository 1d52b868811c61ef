use Rattle.std.proofs.Common.{◌≡◌, ◌↔◌, Bool, false, List, sym, ap, subst, ◌∙◌}
use Rattle.hart_access.specs.Accesses.{place}
use Rattle.hart_access.specs.declared.accesses.Access.TheVariants.{Fetch}
use Rattle.any_tlb.specs.WatchedWords.{WatchedWordsAgree}
use Rattle.board_core.specs.Memory.{memory, satp}
use Rattle.board_laws.specs.Steady.{no_tlb}
use Rattle.access_marks.specs.declared.words.WordNote.{WordNote}
use Rattle.access_marks.specs.Inside.Following.{Following}
use Rattle.access_marks.specs.Inside.Words.{differs}
use Rattle.access_marks.proofs.Following.{no-word, word-steady}
use Rattle.access_marks.proofs.followed.Followed.is_word_steady.Goals as goal

pub returns-in-Ok : goal.returns-in-Ok
returns-in-Ok c =
    let f = c.args.self.now in
    let o = f.course.opening in
    let past = f.course.past in
    let h = c.args.at.hart in
    let pa = c.in-Ok.address in
    let noted : (c.differs.result ≡ false) ↔ WatchedWordsAgree o past h pa =
    subst (λ (b : Bool). (b ≡ false) ↔ WatchedWordsAgree o past h pa) (sym (c.differs.ensures ∙ ap (λ (l : List WordNote). differs l h pa) c.deref.ensures.value))
    (subst (λ (f : Following). (differs c.self.inside.notes.items h pa ≡ false) ↔ WatchedWordsAgree f.course.opening f.course.past h pa) c.self.view_is (c.self.invariant.1 h pa)) in
    word-steady o past h (place (memory o past) (satp o past h) no_tlb c.args.at.address Fetch) pa c.differs.result (sym c.fetched.ensures ∙ c.in-Ok.is) noted (c.watched_words_decide.ensures o past h pa)

pub returns-in-Err : goal.returns-in-Err
returns-in-Err c =
    let f = c.args.self.now in
    let o = f.course.opening in
    let past = f.course.past in
    no-word o past c.args.at.hart (place (memory o past) (satp o past c.args.at.hart) no_tlb c.args.at.address Fetch) c.in-Err.field-0 (sym c.fetched.ensures ∙ c.in-Err.is)

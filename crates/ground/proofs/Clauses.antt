-- Facts side by side, as the clauses of a contract: what a law gives as a tuple is told by the clauses' names, and the other way round.

pub told_answer_changes : {A B : Type 0} → A × B → record { answer : A; changes : B }
told_answer_changes facts = record { answer = facts.0; changes = facts.1 }

pub heard_answer_changes : {A B : Type 0} → record { answer : A; changes : B } → A × B
heard_answer_changes facts = (facts.answer, facts.changes)

pub told_answer_fields : {A B : Type 0} → A × B → record { answer : A; fields : B }
told_answer_fields facts = record { answer = facts.0; fields = facts.1 }

pub told_answer_frame : {A B : Type 0} → A × B → record { answer : A; frame : B }
told_answer_frame facts = record { answer = facts.0; frame = facts.1 }

pub heard_answer_frame : {A B : Type 0} → record { answer : A; frame : B } → A × B
heard_answer_frame facts = (facts.answer, facts.frame)

pub told_answer_laid : {A B : Type 0} → A × B → record { answer : A; laid : B }
told_answer_laid facts = record { answer = facts.0; laid = facts.1 }

pub told_answer_meter : {A B : Type 0} → A × B → record { answer : A; meter : B }
told_answer_meter facts = record { answer = facts.0; meter = facts.1 }

pub heard_answer_meter : {A B : Type 0} → record { answer : A; meter : B } → A × B
heard_answer_meter facts = (facts.answer, facts.meter)

pub told_answer_out : {A B : Type 0} → A × B → record { answer : A; out : B }
told_answer_out facts = record { answer = facts.0; out = facts.1 }

pub heard_answer_out : {A B : Type 0} → record { answer : A; out : B } → A × B
heard_answer_out facts = (facts.answer, facts.out)

pub told_answer_path : {A B : Type 0} → A × B → record { answer : A; path : B }
told_answer_path facts = record { answer = facts.0; path = facts.1 }

pub told_answer_table : {A B : Type 0} → A × B → record { answer : A; table : B }
told_answer_table facts = record { answer = facts.0; table = facts.1 }

pub heard_answer_table : {A B : Type 0} → record { answer : A; table : B } → A × B
heard_answer_table facts = (facts.answer, facts.table)

pub heard_words_queues : {A B : Type 0} → record { words : A; queues : B } → A × B
heard_words_queues facts = (facts.words, facts.queues)

pub told_answer_numbers_queues : {A B C : Type 0} → A × (B × C) → record { answer : A; numbers : B; queues : C }
told_answer_numbers_queues facts = record { answer = facts.0; numbers = facts.1.0; queues = facts.1.1 }

pub heard_answer_numbers_queues : {A B C : Type 0} → record { answer : A; numbers : B; queues : C } → A × (B × C)
heard_answer_numbers_queues facts = (facts.answer, (facts.numbers, facts.queues))

pub told_answer_table_sent : {A B C : Type 0} → A × (B × C) → record { answer : A; table : B; sent : C }
told_answer_table_sent facts = record { answer = facts.0; table = facts.1.0; sent = facts.1.1 }

pub heard_answer_table_sent : {A B C : Type 0} → record { answer : A; table : B; sent : C } → A × (B × C)
heard_answer_table_sent facts = (facts.answer, (facts.table, facts.sent))

pub told_answer_units_queues : {A B C : Type 0} → A × (B × C) → record { answer : A; units : B; queues : C }
told_answer_units_queues facts = record { answer = facts.0; units = facts.1.0; queues = facts.1.1 }

pub told_answer_words_queues : {A B C : Type 0} → A × (B × C) → record { answer : A; words : B; queues : C }
told_answer_words_queues facts = record { answer = facts.0; words = facts.1.0; queues = facts.1.1 }

pub heard_answer_words_queues : {A B C : Type 0} → record { answer : A; words : B; queues : C } → A × (B × C)
heard_answer_words_queues facts = (facts.answer, (facts.words, facts.queues))

pub told_used_out_some : {A B C : Type 0} → A × (B × C) → record { used : A; out : B; some : C }
told_used_out_some facts = record { used = facts.0; out = facts.1.0; some = facts.1.1 }

pub heard_used_out_some : {A B C : Type 0} → record { used : A; out : B; some : C } → A × (B × C)
heard_used_out_some facts = (facts.used, (facts.out, facts.some))

pub told_answer_words_queues_meter : {A B C D : Type 0} → A × (B × (C × D)) → record { answer : A; words : B; queues : C; meter : D }
told_answer_words_queues_meter facts = record { answer = facts.0; words = facts.1.0; queues = facts.1.1.0; meter = facts.1.1.1 }

pub heard_answer_words_queues_meter : {A B C D : Type 0} → record { answer : A; words : B; queues : C; meter : D } → A × (B × (C × D))
heard_answer_words_queues_meter facts = (facts.answer, (facts.words, (facts.queues, facts.meter)))

pub told_held_place_whole_line : {A B C D : Type 0} → A × (B × (C × D)) → record { held : A; place : B; whole : C; line : D }
told_held_place_whole_line facts = record { held = facts.0; place = facts.1.0; whole = facts.1.1.0; line = facts.1.1.1 }

pub heard_held_place_whole_line : {A B C D : Type 0} → record { held : A; place : B; whole : C; line : D } → A × (B × (C × D))
heard_held_place_whole_line facts = (facts.held, (facts.place, (facts.whole, facts.line)))

pub told_performed : {A B C D E : Type 0} → A × (B × (C × (D × E))) → record { answer : A; out : B; words : C; queues : D; meter : E }
told_performed facts = record { answer = facts.0; out = facts.1.0; words = facts.1.1.0; queues = facts.1.1.1.0; meter = facts.1.1.1.1 }

pub heard_performed : {A B C D E : Type 0} → record { answer : A; out : B; words : C; queues : D; meter : E } → A × (B × (C × (D × E)))
heard_performed facts = (facts.answer, (facts.out, (facts.words, (facts.queues, facts.meter))))

pub told_session : {A B C D E F G : Type 0} → A × (B × (C × (D × (E × (F × G))))) → record { answer : A; words : B; queues : C; meter : D; line : E; out : F; inside : G }
told_session facts = record { answer = facts.0; words = facts.1.0; queues = facts.1.1.0; meter = facts.1.1.1.0; line = facts.1.1.1.1.0; out = facts.1.1.1.1.1.0; inside = facts.1.1.1.1.1.1 }

pub heard_session : {A B C D E F G : Type 0} → record { answer : A; words : B; queues : C; meter : D; line : E; out : F; inside : G } → A × (B × (C × (D × (E × (F × G)))))
heard_session facts = (facts.answer, (facts.words, (facts.queues, (facts.meter, (facts.line, (facts.out, facts.inside))))))

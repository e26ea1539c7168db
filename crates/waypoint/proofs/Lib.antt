mod PassageFacts
